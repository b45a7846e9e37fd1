use Rattle.table.specs.Answers.{memory}
use Rattle.table.proofs.AnswerFacts.{handed_on}
use Rattle.tapes.proofs.ProjectCall.{project_ready, project-refused, project_done}
use Rattle.tapes.proofs.project.project.Goals as goal

pub returns-in_err-judge_choice : goal.returns-in_err-judge_choice
returns-in_err-judge_choice c =
    rw (handed_on _ _ c.from_residual.ensures.1) (project-refused (memory c.args.table.now) c.args.tapes.now c.args.out_states.now c.args.out_arcs.now _ c.in_err-judge_choice.ensures)

pub choose_copy-requires : goal.choose_copy-requires
choose_copy-requires c = project_ready (memory c.args.table.now) c.args.tapes.now c.args.out_states.now c.args.out_arcs.now c.in_ok-judge_choice.ensures

pub returns : goal.returns
returns c = project_done (memory c.args.table.now) c.args.tapes.now c.args.out_states.now c.args.out_arcs.now c.in_ok-judge_choice.ensures _ _ _ c.choose_copy.ensures
