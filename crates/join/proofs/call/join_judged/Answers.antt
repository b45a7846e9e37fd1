use Rattle.join.proofs.CallFacts.{call_cleared}
use Rattle.join.proofs.call.join_judged.Goals as goal

pub returns : goal.returns
returns c =
    λ ps k. call_cleared _ _ ps _ _ _ _ _ _ _ _ _ _ _ _ (c.build-answer.ensures ps k) c.build-answer.auto.product_states c.zero.ensures c.build-answer.auto.product_arcs c.zero-2.ensures c.build-answer.auto.work c.zero-3.ensures
