use Rattle.text_store.proofs.RecodeFacts.{from_place}
use Rattle.text_store.proofs.StoredFacts.{arc_sized}
use Rattle.text_store.specs.Stored.{arc_of_line}
use Rattle.text_store.proofs.store.store_arcs.Goals as goal

pub returns : goal.returns
returns c =
    rw (← from_place c.args.start c.args.text.now)
    (c.write_parts.ensures (arc_of_line c.args.tapes) (record { sized = λ y e. arc_sized c.args.tapes y e c.requires.1.0; gives = λ part out left at p. p }))
