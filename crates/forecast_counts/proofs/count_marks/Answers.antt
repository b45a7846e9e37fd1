use mathlib.Core.Path.{◌∙◌}
use native.Mathlib.Omega.{arith}
use lib.Dec.{eqb}
use lib.ListN.{get_or}
use Rattle.forecast_counts.proofs.PathFacts.{test-le}
use Rattle.forecast_counts.proofs.SymbolFacts.{marks_turn, marks_end}
use Rattle.forecast_counts.proofs.count_marks.Goals as goal

pub loop-mark-preserved : goal.loop-mark-preserved
loop-mark-preserved c =
    let l = c.loop-mark in
    (omega (arith, l.invariant.0, c.from-found.ensures, test-le (eqb (get_or c.args.seen.now l.mark-index 0) 1)), marks_turn _ l.mark-index _ _ (omega arith) c.from-found.ensures ∙ l.invariant.1)

pub returns : goal.returns
returns c = marks_end _ c.loop-mark.mark-index _ (omega arith) ∙ c.loop-mark.invariant.1
