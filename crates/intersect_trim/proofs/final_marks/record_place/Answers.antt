use Rattle.intersect_trim.proofs.RowFacts.{row_state_lem}
use Rattle.intersect_trim.proofs.final_marks.record_place.Goals as goal

pub returns : goal.returns
returns c = row_state_lem _ _ _ c.get16.ensures
