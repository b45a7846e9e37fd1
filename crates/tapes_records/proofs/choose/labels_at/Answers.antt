use Rattle.tapes_records.proofs.RewriteFacts.{labels_found}
use Rattle.tapes_records.proofs.choose.labels_at.Goals as goal

pub returns : goal.returns
returns c = labels_found _ c.args.arcs.now _ _ _ c.labels_start-from.ensures c.copy_labels.ensures
