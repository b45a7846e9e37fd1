use Rattle.table.specs.Answers.{memory}
use Rattle.tapes_records.proofs.RoomFacts.{copy_ready}
use Rattle.tapes.proofs.DropCall.{copy_droppable, copy_dropped}
use Rattle.tapes.proofs.drop.drop_copy.Goals as goal

pub copy_table-requires : goal.copy_table-requires
copy_table-requires c = copy_ready (memory c.args.table.now) c.requires.0.sound _ _ c.requires.1 c.requires.2

pub drop_in_place-requires : goal.drop_in_place-requires
drop_in_place-requires c = copy_droppable (memory c.args.table.now) c.args.mask c.requires.0 _ _ _ _ c.copy_table.ensures

pub returns : goal.returns
returns c = copy_dropped (memory c.args.table.now) c.args.mask c.requires.0 _ _ _ _ c.copy_table.ensures _ _ _ c.requires.1 c.requires.2 c.drop_in_place.ensures
