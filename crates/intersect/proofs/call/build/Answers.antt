use Rattle.table.proofs.AnswerFacts.{handed_on}
use Rattle.intersect.proofs.CallFacts.{call_refused, call_answered}
use Rattle.intersect.proofs.call.build.Goals as goal

pub returns-in_err-plan : goal.returns-in_err-plan
returns-in_err-plan c = rw (handed_on _ _ c.from_residual.ensures.1)
    (λ ps k. call_refused c.args.table.now.counts c.args.table.now.states.now c.args.table.now.arcs.now ps c.args.out_states.now c.args.out_arcs.now c.args.work.now _ (c.in_err-plan.ensures ps k))

pub returns : goal.returns
returns c = λ ps k.
    call_answered c.args.table.now.counts c.args.table.now.states.now c.args.table.now.arcs.now ps c.args.out_states.now c.args.out_arcs.now c.args.work.now _ (c.in_ok-plan.ensures ps k) _ _ _ c.reach.ensures
