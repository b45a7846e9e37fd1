use Rattle.text_store.specs.Stored.{no_labels}
use Rattle.text_store.proofs.store.store_no_labels.Goals as goal

pub returns : goal.returns
unfolding no_labels
returns c = c.copy_into.ensures
