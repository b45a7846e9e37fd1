use Rattle.intersect.proofs.CallFacts.{call_cleared}
use Rattle.intersect.proofs.call.intersect_judged.Goals as goal

pub returns : goal.returns
returns c =
    λ ps k. call_cleared _ ps _ _ _ _ _ _ _ (c.build-answer.ensures ps k) c.build-answer.auto.work c.zero.ensures
