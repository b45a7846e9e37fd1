use Rattle.lookup.proofs.CallFacts.{call_cleared}
use Rattle.lookup.proofs.call.lookup.Goals as goal

pub returns : goal.returns
returns c = call_cleared _ _ _ _ _ _ c.find-answer.ensures c.find-answer.auto.work c.zero.ensures
