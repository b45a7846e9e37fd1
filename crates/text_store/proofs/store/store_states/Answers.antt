use Rattle.text_store.proofs.RecodeFacts.{from_place}
use Rattle.text_store.proofs.StoredFacts.{state_sized}
use Rattle.text_store.specs.Stored.{state_of_line}
use Rattle.text_store.proofs.store.store_states.Goals as goal

pub returns : goal.returns
returns c = rw (← from_place c.args.start c.args.text.now) (c.write_parts.ensures state_of_line (record { sized = state_sized; gives = λ part out left at p. p }))
