use native.Mathlib.Omega.{arith}
use Rattle.intersect_room.specs.Room.{lent_space}
use Rattle.tapes_records.proofs.RoomFacts.{states_over_lem, arcs_over_lem, both_fit}
use Rattle.tapes_records.proofs.room.fits.Goals as goal

pub returns-then-min-states : goal.returns-then-min-states
returns-then-min-states c = states_over_lem c.args.states c.args.arcs (lent_space c.args.lent_states c.args.lent_arcs) (omega arith)

pub returns-then-min-arcs : goal.returns-then-min-arcs
returns-then-min-arcs c = arcs_over_lem c.args.states c.args.arcs (lent_space c.args.lent_states c.args.lent_arcs) (omega arith) (omega arith)

pub returns-else-min-arcs : goal.returns-else-min-arcs
returns-else-min-arcs c = both_fit c.args.states c.args.arcs (lent_space c.args.lent_states c.args.lent_arcs) (omega arith) (omega arith)
