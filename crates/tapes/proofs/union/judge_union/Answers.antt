use native.Mathlib.Omega.{arith}
use Rattle.table.specs.Answers.{memory}
use Rattle.table.proofs.AnswerFacts.{handed_on}
use Rattle.intersect_room.specs.Room.{lent_space}
use Rattle.tapes.proofs.UnionCall.{union-first_judged, union_second_judged, union_tapes_judged, sums_small, union-space_judged}
use Rattle.tapes.proofs.union.judge_union.Goals as goal

pub returns-in_err-judge : goal.returns-in_err-judge
returns-in_err-judge c = rw (handed_on _ _ c.from_residual.ensures.1) (union-first_judged (memory c.args.first.now) (memory c.args.second.now) (lent_space c.args.lent_states c.args.lent_arcs) _ c.in_err-judge.ensures)

pub returns-in_err-judge-2 : goal.returns-in_err-judge-2
returns-in_err-judge-2 c =
    rw (handed_on _ _ c.from_residual-in_err-judge-2.ensures.1) (union_second_judged (memory c.args.first.now) (memory c.args.second.now) (lent_space c.args.lent_states c.args.lent_arcs) c.in_ok-judge.ensures _ c.in_err-judge-2.ensures)

pub returns-then-first-second : goal.returns-then-first-second
returns-then-first-second c = union_tapes_judged (memory c.args.first.now) (memory c.args.second.now) (lent_space c.args.lent_states c.args.lent_arcs) c.in_ok-judge.ensures c.in_ok-judge-2.ensures c.if-first-second.true

pub overflow_add-states : goal.overflow_add-states
overflow_add-states c = omega (arith, (sums_small (memory c.args.first.now) (memory c.args.second.now) (lent_space c.args.lent_states c.args.lent_arcs) c.in_ok-judge.ensures c.in_ok-judge-2.ensures).0)

pub overflow_add-arcs : goal.overflow_add-arcs
overflow_add-arcs c = omega (arith, (sums_small (memory c.args.first.now) (memory c.args.second.now) (lent_space c.args.lent_states c.args.lent_arcs) c.in_ok-judge.ensures c.in_ok-judge-2.ensures).1)

pub returns : goal.returns
returns c = union-space_judged (memory c.args.first.now) (memory c.args.second.now) (lent_space c.args.lent_states c.args.lent_arcs) c.in_ok-judge.ensures c.in_ok-judge-2.ensures c.if-first-second.false _ c.fits.ensures
