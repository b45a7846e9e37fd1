use Rattle.delays.proofs.ClosingFacts.{sound_listable}
use Rattle.table.specs.Answers.{memory}
use Rattle.delays.proofs.closing_tables.Goals as goal

pub list_arcs-requires : goal.list_arcs-requires
list_arcs-requires c = sound_listable (memory c.args.table.now) c.requires.0
