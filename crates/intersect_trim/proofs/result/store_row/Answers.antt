use Rattle.intersect_trim.proofs.ResultFacts.{row_copied, row_blank}
use Rattle.intersect_trim.proofs.result.store_row.Goals as goal

pub returns-then-row_plain : goal.returns-then-row_plain
returns-then-row_plain c = row_copied _ _ _ _ _ _ _ c.row_plain.ensures c.if-row_plain.true c.record_place-place.ensures c.copy_into.ensures

pub returns-else-row_plain : goal.returns-else-row_plain
returns-else-row_plain c = row_blank _ _ _ _ _ _ c.row_plain.ensures c.if-row_plain.false c.copy_into-else-row_plain.ensures
