use Rattle.path.proofs.CallFacts.{call_outcome}
use Rattle.path.proofs.call.path.Goals as goal

pub returns : goal.returns
returns c = call_outcome _ _ _ _ _ c.find_cleared.ensures
