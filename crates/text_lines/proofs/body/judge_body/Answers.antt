use native.Mathlib.Omega.{arith}
use Rattle.table.proofs.AnswerFacts.{handed_on}
use Rattle.text_lines.proofs.BodyFacts.{body_states, body_room, body_arcs, body_size, body_more, body_done}
use Rattle.text_lines.proofs.body.judge_body.Goals as goal

pub returns-in_err-judge_states : goal.returns-in_err-judge_states
returns-in_err-judge_states c = rw (handed_on _ _ c.from_residual.ensures.1) (body_states c.args.tapes c.args.states c.args.arcs c.args.text.now c.requires.0 _ c.in_err-judge_states.ensures)

pub judge_arcs-requires : goal.judge_arcs-requires
judge_arcs-requires c = (body_room c.args.tapes c.args.states c.args.arcs c.args.text.now c.requires.0 c.in_ok-judge_states.ensures, c.requires.1.0)

pub returns-in_err-judge_arcs : goal.returns-in_err-judge_arcs
returns-in_err-judge_arcs c =
    rw (handed_on _ _ c.from_residual-in_err-judge_arcs.ensures.1) (body_arcs c.args.tapes c.args.states c.args.arcs c.args.text.now c.requires.0 c.in_ok-judge_states.ensures _ c.in_err-judge_arcs.ensures)

pub overflow_mul-arcs : goal.overflow_mul-arcs
overflow_mul-arcs c = omega (arith, body_size c.args.tapes c.args.states c.args.arcs c.args.text.now c.requires.0 c.in_ok-judge_states.ensures c.in_ok-judge_arcs.ensures)

pub overflow_sub-text : goal.overflow_sub-text
overflow_sub-text c = omega (arith, body_room c.args.tapes c.args.states c.args.arcs c.args.text.now c.requires.0 c.in_ok-judge_states.ensures)

pub returns-then-text-at : goal.returns-then-text-at
returns-then-text-at c = body_done c.args.tapes c.args.states c.args.arcs c.args.text.now c.requires.0 c.in_ok-judge_states.ensures c.in_ok-judge_arcs.ensures c.if-text-at.true

pub returns-else-text-at : goal.returns-else-text-at
returns-else-text-at c = body_more c.args.tapes c.args.states c.args.arcs c.args.text.now c.requires.0 c.in_ok-judge_states.ensures c.in_ok-judge_arcs.ensures c.if-text-at.false
