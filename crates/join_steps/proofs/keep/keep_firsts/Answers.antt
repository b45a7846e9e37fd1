use Rattle.join_steps.proofs.KeepFacts.{keep_refused, kept_droppable, keep_dropped}
use Rattle.join_steps.proofs.keep.keep_firsts.Goals as goal

pub returns-in_default : goal.returns-in_default
returns-in_default c = rw c.in_default.is (keep_refused _ _ _ _ _ _ c.requires _ _ _ _ c.in_default.ensures)

pub drop_seconds-requires : goal.drop_seconds-requires
drop_seconds-requires c = kept_droppable _ _ _ _ _ _ c.requires _ _ _ _ c.in-Ok.ensures

pub returns : goal.returns
returns c = keep_dropped _ _ _ _ _ _ c.requires _ _ _ _ _ c.in-Ok.ensures c.drop_seconds.ensures
