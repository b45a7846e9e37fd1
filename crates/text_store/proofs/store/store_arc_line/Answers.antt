use Rattle.text_store.proofs.StoredFacts.{arc_stored}
use Rattle.text_store.proofs.store.store_arc_line.Goals as goal

pub returns : goal.returns
returns c =
    let s = c in
    let f = c.labels_start-labels.ensures in
    arc_stored s.args.tapes _ s.requires.0 s.args.at _ _ _ _ _ f s.requires.1.0 s.requires.1.1 c.store_numbers.ensures c.store_no_labels.ensures c.store_labels.ensures
