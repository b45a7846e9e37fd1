use Rattle.search_rows.proofs.KeptFacts.{kept_put, kept_left}
use Rattle.search_rows.proofs.store_within.Goals as goal

pub returns-then-number-room : goal.returns-then-number-room
returns-then-number-room c = kept_put _ _ _ _ _ _ c.if-number-room.true c.copy_into.ensures

pub returns-else-number-room : goal.returns-else-number-room
returns-else-number-room c = kept_left _ _ _ _ _ c.if-number-room.false
