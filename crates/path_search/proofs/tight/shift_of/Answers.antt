use Rattle.path_search.proofs.TightFacts.{shift_turn, shift_end, shift_bound}
use Prim.Native.Nat.{◌+◌, ◌-◌}
use mathlib.Core.Path.{◌∙◌}
use native.Mathlib.Omega.{arith}
use Rattle.path_search.proofs.tight.shift_of.Goals as goal

pub loop-h-preserved : goal.loop-h-preserved
loop-h-preserved c =
    let l = c.loop-h in
    let k = c.loop-h-test.true in
    let n = c.args.counts.tapes in
    let b = shift_bound _ _ c.args.e l.h l.at c.requires.0 c.requires.2 (omega (arith, k, c.requires.1)) l.invariant.0 in (
      omega (arith, l.invariant.0),
      omega (arith, b, l.invariant.1),
      shift_turn _ _ (n - l.h) _ _ _ (n - (l.h + 1)) (omega (arith, k)) ∙ l.invariant.2,
    )

pub returns : goal.returns
returns c = shift_end _ _ (c.args.counts.tapes - c.loop-h.h) _ _ _ (omega (arith, c.loop-h-test.false)) ∙ c.loop-h.invariant.2
