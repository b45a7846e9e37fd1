use Rattle.table.specs.Answers.{memory}
use native.Mathlib.Omega.{arith}
use Rattle.tapes_records.proofs.RoomFacts.{copy_ready}
use Rattle.tapes.proofs.ProjectCall.{choice_named, copy_chosen}
use Rattle.tapes.proofs.project.choose_copy.Goals as goal

pub copy_table-requires : goal.copy_table-requires
copy_table-requires c = copy_ready (memory c.args.table.now) c.requires.0.sound _ _ c.requires.1 c.requires.2

pub choose_arcs-requires : goal.choose_arcs-requires
choose_arcs-requires c = (choice_named (memory c.args.table.now) _ c.requires.0, omega (arith, c.requires.2, c.copy_table.auto.out_arcs))

pub returns : goal.returns
returns c = copy_chosen (memory c.args.table.now) c.args.tapes.now c.requires.0 _ _ _ _ c.copy_table.ensures _ c.requires.1 c.requires.2 c.choose_arcs.ensures
