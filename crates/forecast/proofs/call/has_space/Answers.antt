use Rattle.forecast.proofs.CallFacts.{space_fits}
use Rattle.forecast.proofs.call.has_space.Goals as goal

pub returns-then-room : goal.returns-then-room
returns-then-room c = rw c.if-room.true (space_fits _ _)
