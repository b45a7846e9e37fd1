use Rattle.table.specs.Answers.{memory}
use Rattle.table.proofs.AnswerFacts.{handed_on}
use Rattle.intersect_room.specs.Room.{lent_space}
use Rattle.tapes.proofs.ProjectCall.{project-table_judged, project-width_judged, project_choice_judged, project-space_judged}
use Rattle.tapes.proofs.project.judge_choice.Goals as goal

pub returns-in_err-judge : goal.returns-in_err-judge
returns-in_err-judge c = rw (handed_on _ _ c.from_residual.ensures.1) (project-table_judged (memory c.args.table.now) c.args.tapes.now (lent_space c.args.lent_states c.args.lent_arcs) _ c.in_err-judge.ensures)

pub returns-then-tapes-gt8 : goal.returns-then-tapes-gt8
returns-then-tapes-gt8 c = project-width_judged (memory c.args.table.now) c.args.tapes.now (lent_space c.args.lent_states c.args.lent_arcs) c.in_ok-judge.ensures c.if-tapes-gt8.true

pub returns-then-not-may_choose : goal.returns-then-not-may_choose
returns-then-not-may_choose c = project_choice_judged (memory c.args.table.now) c.args.tapes.now (lent_space c.args.lent_states c.args.lent_arcs) c.in_ok-judge.ensures c.if-tapes-gt8.false c.if-not-may_choose.ensures

pub returns : goal.returns
returns c = project-space_judged (memory c.args.table.now) c.args.tapes.now (lent_space c.args.lent_states c.args.lent_arcs) c.in_ok-judge.ensures c.if-tapes-gt8.false c.if-not-may_choose.ensures _ c.fits.ensures
