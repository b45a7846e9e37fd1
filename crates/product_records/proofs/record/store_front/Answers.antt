use Rattle.product_records.proofs.RecordFacts.{front_stored}
use Rattle.product_records.proofs.record.store_front.Goals as goal

pub returns : goal.returns
returns c = front_stored _ _ _ _ _ _ c.requires c.store_ends.ensures c.store_arc_weight.ensures
