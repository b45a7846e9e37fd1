use Rattle.product.proofs.AnswerFacts.{answer_full, answer_arcs, answer_weights, answer_made, rows_fit, rows-within, moves_long, moves_within, states_room, arcs_room}
use mathlib.Core.Path.{refl}
use mathlib.Core.Path.{ap}
use mathlib.Core.Bool.{not}
use Rattle.product.proofs.finish.answer_search.Goals as goal

pub returns-then-head : goal.returns-then-head
returns-then-head c = answer_full _ _ _ _ _ _ _ c.args.out_states.now c.args.out_arcs.now c.requires c.if-head.true

pub returns-then-plan-head : goal.returns-then-plan-head
returns-then-plan-head c =
    answer_arcs _ _ _ _ _ _ _ c.args.out_states.now c.args.out_arcs.now c.requires c.if-head.false c.if-plan-head.true

pub sums_fit-fit-requires : goal.sums_fit-fit-requires
sums_fit-fit-requires c =
    let e = c.if-head.false in
    let h = c.if-plan-head.false in
    (rows_fit _ _ _ _ _ _ _ c.args.out_states.now c.args.out_arcs.now c.requires e h, rows-within _ _ _ _ _ _ _ c.args.out_states.now c.args.out_arcs.now c.requires e h, moves_long _ _ _ _ _ _ _ c.args.out_states.now c.args.out_arcs.now c.requires e h, moves_within _ _ _ _ _ _ _ c.args.out_states.now c.args.out_arcs.now c.requires e h)

pub returns-then-not-fit : goal.returns-then-not-fit
returns-then-not-fit c =
    answer_weights _ _ _ _ _ _ _ c.args.out_states.now c.args.out_arcs.now c.requires c.if-head.false c.if-plan-head.false _ c.sums_fit-fit.ensures (ap not c.if-not-fit.true)

pub write_states-requires : goal.write_states-requires
write_states-requires c =
    let e = c.if-head.false in
    let h = c.if-plan-head.false in
    (rows_fit _ _ _ _ _ _ _ c.args.out_states.now c.args.out_arcs.now c.requires e h, rows-within _ _ _ _ _ _ _ c.args.out_states.now c.args.out_arcs.now c.requires e h, states_room _ _ _ _ _ _ _ c.args.out_states.now c.args.out_arcs.now c.requires e h)

pub write_moves-requires : goal.write_moves-requires
write_moves-requires c =
    let e = c.if-head.false in
    let h = c.if-plan-head.false in
    (moves_long _ _ _ _ _ _ _ c.args.out_states.now c.args.out_arcs.now c.requires e h, moves_within _ _ _ _ _ _ _ c.args.out_states.now c.args.out_arcs.now c.requires e h, c.requires.tapes_fit, arcs_room _ _ _ _ _ _ _ c.args.out_states.now c.args.out_arcs.now c.requires e h)

pub returns : goal.returns
returns c =
    answer_made _ _ _ _ _ _ _ c.args.out_states.now c.args.out_arcs.now c.requires c.if-head.false c.if-plan-head.false _ c.sums_fit-fit.ensures (ap not c.if-not-fit.false) _ _ _ _ refl refl c.write_states.ensures c.write_moves.ensures
