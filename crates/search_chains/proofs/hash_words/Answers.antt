use mathlib.Core.Path.{◌≡◌, ◌∙◌}
use Prim.Native.Nat.{◌+◌, ◌-◌, ◌*◌, ◌<◌}
use Rattle.search_chains.proofs.HashFacts.{hash_step, hash_end}
use native.Mathlib.Omega.{arith}
use Rattle.search_chains.proofs.hash_words.Goals as goal

pub loop-i-preserved : goal.loop-i-preserved
loop-i-preserved c =
    let l = c.loop-i in
    let m = c.mix-hash.ensures in
    let more : 0 < c.args.n - l.i = omega arith in
    let at : c.args.at + 8 * (l.i + 1) ≡ c.args.at + 8 * l.i + 8 = omega arith in
    let left : c.args.n - (l.i + 1) ≡ c.args.n - l.i - 1 = omega arith in
    (m.1, rw (at, left, m.0) (hash_step (c.args.n - l.i) (c.args.at + 8 * l.i) l.hash _ _ more c.get64.ensures) ∙ l.invariant.1)

pub returns : goal.returns
returns c = let l = c.loop-i in (hash_end (c.args.n - l.i) (c.args.at + 8 * l.i) l.hash _ (omega arith) ∙ l.invariant.1, l.invariant.0)
