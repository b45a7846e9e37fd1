use native.Mathlib.Omega.{arith}
use mathlib.Core.List.{[]}
use Rattle.intersect_trim.proofs.ResultFacts.{arc-from, arc-to, arc-put, arc-room}
use Rattle.intersect_trim.proofs.result.put_arc.Goals as goal
use Rattle.intersect_trim.proofs.result.put_arc.Goals.{then-marks-e-ne1-via-then-marks-e-ne1, then-marks-e-ne1-via-else-marks-e-ne1+then-marks-e-ne1-2}

pub returns-then-marks-e-ne1 : goal.returns-then-marks-e-ne1
returns-then-marks-e-ne1 c = elim c.then-marks-e-ne1.branch [
  | then-marks-e-ne1-via-then-marks-e-ne1 w ↦ arc-from _ _ _ _ _ _ w.if-marks-e-ne1.true
  | then-marks-e-ne1-via-else-marks-e-ne1+then-marks-e-ne1-2 w ↦ arc-to _ _ _ _ _ _ w.if-marks-e-ne1.false w.if-marks-e-ne1-2.true
]

pub store_arc-requires : goal.store_arc-requires
store_arc-requires c =
    let r = c.requires in
    (omega (arith, r.0, r.2), omega (arith, r.1, r.2), r.3, arc-room _ _ _ _ _ [] _ c.if-marks-e-ne1.false c.if-marks-e-ne1-2.false r.3 r.4)

pub returns : goal.returns
returns c = arc-put _ _ _ _ _ _ _ c.if-marks-e-ne1.false c.if-marks-e-ne1-2.false c.store_arc.ensures
