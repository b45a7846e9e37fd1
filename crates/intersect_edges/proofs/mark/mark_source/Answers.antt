use Rattle.intersect_edges.proofs.MarkFacts.{visit_unmarked, visit-marked, visit_marks}
use Rattle.intersect_edges.proofs.mark.mark_source.Goals as goal
use Rattle.intersect_edges.proofs.mark.mark_source.Goals.{then-marks-e-ne1-via-then-marks-e-ne1, then-marks-e-ne1-via-else-marks-e-ne1+then-marks-e-eq1}

pub returns-then-marks-e-ne1 : goal.returns-then-marks-e-ne1
returns-then-marks-e-ne1 c = elim c.then-marks-e-ne1.branch [
  | then-marks-e-ne1-via-then-marks-e-ne1 w ↦ visit_unmarked _ _ w.if-marks-e-ne1.true
  | then-marks-e-ne1-via-else-marks-e-ne1+then-marks-e-eq1 w ↦ visit-marked _ _ w.if-marks-e-ne1.false w.if-marks-e-eq1.true
]

pub returns : goal.returns
returns c = visit_marks _ _ c.if-marks-e-ne1.false
