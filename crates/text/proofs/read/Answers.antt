use native.Mathlib.Omega.{arith}
use Rattle.table.proofs.AnswerFacts.{handed_on}
use Rattle.text.proofs.ReadFacts.{read_refused, read_room, read_stored}
use Rattle.text.proofs.read.Goals as goal

pub returns-in_err-counts : goal.returns-in_err-counts
returns-in_err-counts c = rw (handed_on _ _ c.from_residual.ensures.1) (read_refused c.args.text.now c.args.states.now c.args.arcs.now _ c.in_err-counts.ensures)

pub store_states-requires : goal.store_states-requires
store_states-requires c = let m = read_room c.args.text.now c.args.states.now c.args.arcs.now _ c.in_ok-counts.ensures in (omega (arith, m.text), omega (arith, m.state_space))

pub overflow_mul-counts : goal.overflow_mul-counts
overflow_mul-counts c = let m = read_room c.args.text.now c.args.states.now c.args.arcs.now _ c.in_ok-counts.ensures in omega (arith, m.states)

pub overflow_add-counts : goal.overflow_add-counts
overflow_add-counts c = let m = read_room c.args.text.now c.args.states.now c.args.arcs.now _ c.in_ok-counts.ensures in omega (arith, m.states)

pub store_arcs-requires : goal.store_arcs-requires
store_arcs-requires c = let m = read_room c.args.text.now c.args.states.now c.args.arcs.now _ c.in_ok-counts.ensures in (omega (arith, m.text), (m.tapes, omega (arith, m.arc_space)))

pub returns : goal.returns
returns c = read_stored c.args.text.now c.args.states.now c.args.arcs.now _ c.in_ok-counts.ensures _ _ c.store_states.ensures c.store_arcs.ensures
