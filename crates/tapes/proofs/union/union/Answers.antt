use Rattle.table.specs.Answers.{memory}
use Rattle.table.proofs.AnswerFacts.{handed_on}
use Rattle.tapes.proofs.UnionCall.{union_ready, union-refused, union_done}
use Rattle.tapes.proofs.union.union.Goals as goal

pub returns-in_err-judge_union : goal.returns-in_err-judge_union
returns-in_err-judge_union c =
    rw (handed_on _ _ c.from_residual.ensures.1) (union-refused (memory c.args.first.now) (memory c.args.second.now) c.args.out_states.now c.args.out_arcs.now _ c.in_err-judge_union.ensures)

pub append-requires : goal.append-requires
append-requires c = union_ready (memory c.args.first.now) (memory c.args.second.now) c.args.out_states.now c.args.out_arcs.now c.in_ok-judge_union.ensures

pub returns : goal.returns
returns c = union_done (memory c.args.first.now) (memory c.args.second.now) c.args.out_states.now c.args.out_arcs.now c.in_ok-judge_union.ensures _ _ _ c.append.ensures
