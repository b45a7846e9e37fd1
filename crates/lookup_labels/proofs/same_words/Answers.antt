use mathlib.Core.Path.{◌≡◌}
use Prim.Native.Nat.{◌+◌, ◌-◌, ◌*◌}
use native.Mathlib.Omega.{arith}
use Rattle.lookup_labels.proofs.NumberFacts.{words_turn, words_end}
use Rattle.lookup_labels.proofs.same_words.Goals as goal

pub loop-k-preserved : goal.loop-k-preserved
loop-k-preserved c =
    let l = c.loop-k in
    let a : c.args.i + 8 * (l.k + 1) ≡ c.args.i + 8 * l.k + 8 = omega arith in
    let b : c.args.j + 8 * (l.k + 1) ≡ c.args.j + 8 * l.k + 8 = omega arith in
    rw (a, b) (λ e. l.invariant (words_turn _ _ (c.args.n - l.k) (c.args.n - (l.k + 1)) _ _ _ (omega arith) (omega arith) (omega arith) (λ i. omega (arith, c.type_inv.arcs i)) c.get64.ensures c.get64-in-loop-k.ensures c.if-get64.false e))

pub returns : goal.returns
returns c = λ e. let l = c.loop-k in l.invariant (words_end _ _ (c.args.n - l.k) _ (omega arith))
