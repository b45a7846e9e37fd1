use Rattle.intersect_result.proofs.AnswerFacts.{answer_full, answer_arcs, answer_late, answer_ready, answer_finished}
use Rattle.intersect_result.proofs.finish.answer_search.Goals as goal

pub returns-then-head : goal.returns-then-head
returns-then-head c =
    λ ps v found. answer_full c.args.plan c.args.head c.args.states.now c.args.arcs.now c.args.work.now c.args.out_states.now c.args.out_arcs.now c.requires ps v found c.if-head.true

pub returns-then-plan-head : goal.returns-then-plan-head
returns-then-plan-head c =
    λ ps v found. answer_arcs c.args.plan c.args.head c.args.states.now c.args.arcs.now c.args.work.now c.args.out_states.now c.args.out_arcs.now c.requires ps v found c.if-head.false c.if-plan-head.true

pub returns-then-head-2 : goal.returns-then-head-2
returns-then-head-2 c =
    λ ps v found. answer_late c.args.plan c.args.head c.args.states.now c.args.arcs.now c.args.work.now c.args.out_states.now c.args.out_arcs.now c.requires ps v found c.if-head.false c.if-plan-head.false c.if-head-2.true

pub finish-requires : goal.finish-requires
finish-requires c =
    answer_ready c.args.plan c.args.head c.args.states.now c.args.arcs.now c.args.work.now c.args.out_states.now c.args.out_arcs.now c.requires _ _ c.requires.searched c.if-head.false c.if-plan-head.false

pub returns-else-head-2 : goal.returns-else-head-2
returns-else-head-2 c =
    λ ps v found. answer_finished c.args.plan c.args.head c.args.states.now c.args.arcs.now c.args.work.now c.args.out_states.now c.args.out_arcs.now c.requires ps v found c.if-head.false c.if-plan-head.false c.if-head-2.false _ c.finish.ensures
