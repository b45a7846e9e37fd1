use Rattle.product_records.proofs.RecordFacts.{move_stored}
use Rattle.product_records.proofs.record.store_move.Goals as goal

pub returns : goal.returns
returns c =
    let s = c in
    let f = c.labels_start.ensures in
    let l = c.store_labels.ensures in
    move_stored _ _ _ _ _ _ _ _ _ _ _ _ _ s.requires.2 c.move_weight-weight.ensures c.store_front.ensures (rw (← f) l.0) l.1
