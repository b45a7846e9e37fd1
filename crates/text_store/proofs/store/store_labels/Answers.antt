use Rattle.text_store.proofs.StoredFacts.{label_sized}
use Rattle.text_store.specs.Stored.{label_of_columns}
use Rattle.text_store.proofs.store.store_labels.Goals as goal

pub returns : goal.returns
returns c = c.write_parts.ensures label_of_columns (record { sized = label_sized; gives = λ part out left at p. p })
