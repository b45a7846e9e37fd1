use Rattle.join_steps.proofs.DropFacts.{seconds-droppable, seconds_dropped}
use Rattle.join_steps.proofs.keep.drop_seconds.Goals as goal

pub drop_in_place-requires : goal.drop_in_place-requires
drop_in_place-requires c = seconds-droppable _ _ c.requires _ c.second_tapes.ensures

pub returns : goal.returns
returns c = seconds_dropped _ _ c.requires _ c.second_tapes.ensures _ _ c.drop_in_place.ensures
