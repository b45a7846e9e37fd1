use mathlib.Core.Path.{◌≡◌, ◌∙◌}
use Prim.Native.Nat.{◌+◌, ◌-◌}
use native.Mathlib.Omega.{arith}
use Rattle.lookup_moves.proofs.MoveFacts.{same_turn, same_not, same_end}
use Rattle.lookup_moves.proofs.moves.same_bytes.Goals as goal

pub returns-then-x-i : goal.returns-then-x-i
returns-then-x-i c = let l = c.loop-k in same_not _ _ _ (c.args.n - l.k - 1) _ _ (omega arith) (omega arith) (omega arith) c.if-x-i.true ∙ l.invariant

pub loop-k-preserved : goal.loop-k-preserved
loop-k-preserved c =
    let l = c.loop-k in
    let a : c.args.i + (l.k + 1) ≡ c.args.i + l.k + 1 = omega arith in
    let b : c.args.j + (l.k + 1) ≡ c.args.j + l.k + 1 = omega arith in
    rw (a, b) (same_turn _ _ _ (c.args.n - (l.k + 1)) _ _ (omega arith) (omega arith) (omega arith) c.if-x-i.false ∙ l.invariant)

pub returns : goal.returns
returns c = let l = c.loop-k in same_end _ _ (c.args.n - l.k) _ _ (omega arith) ∙ l.invariant
