use Rattle.product.proofs.CallFacts.{call_cleared}
use Rattle.product.proofs.call.product.Goals as goal

pub returns : goal.returns
returns c = call_cleared _ _ _ _ _ _ _ _ _ c.multiply-answer.ensures c.multiply-answer.auto.work c.zero.ensures
