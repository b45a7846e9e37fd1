use Rattle.product_records.proofs.RecordFacts.{labels_stored}
use Rattle.product_records.proofs.record.store_labels.Goals as goal

pub returns : goal.returns
returns c =
    let s = c in
    labels_stored _ _ _ _ _ s.requires.0 s.requires.1 s.requires.2 _ _ _ _ _ s.requires.3 c.clear_labels.ensures c.store_side.ensures c.store_side-2.ensures
