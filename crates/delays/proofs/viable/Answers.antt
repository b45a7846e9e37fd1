use Rattle.delays.proofs.TestFacts.{tests}
use Rattle.delays.proofs.viable.Goals as goal

pub returns : goal.returns
returns c = tests _ _ _ _ _ _ _ c.viable_at.ensures
