use Rattle.table.specs.Answers.{memory}
use Rattle.table.proofs.AnswerFacts.{handed_on}
use Rattle.tapes.proofs.DropCall.{drop_ready, drop_refused, drop_done}
use Rattle.tapes.proofs.drop.drop_tapes.Goals as goal

pub returns-in_err-judge_drop : goal.returns-in_err-judge_drop
returns-in_err-judge_drop c = rw (handed_on _ _ c.from_residual.ensures.1) (drop_refused (memory c.args.table.now) c.args.mask c.args.out_states.now c.args.out_arcs.now _ c.in_err-judge_drop.ensures)

pub drop_copy-requires : goal.drop_copy-requires
drop_copy-requires c = drop_ready (memory c.args.table.now) c.args.mask c.args.out_states.now c.args.out_arcs.now c.in_ok-judge_drop.ensures

pub returns : goal.returns
returns c = drop_done (memory c.args.table.now) c.args.mask c.args.out_states.now c.args.out_arcs.now c.in_ok-judge_drop.ensures _ _ _ c.drop_copy.ensures
