use Rattle.lookup_cells.proofs.EndFacts.{least_turn, least_first}
use Rattle.lookup_cells.proofs.ends.least_from.Goals as goal

pub loop-q-init : goal.loop-q-init
loop-q-init c = least_first _ _ _

pub loop-q-preserved : goal.loop-q-preserved
loop-q-preserved c = let e = c.min-least.ensures in least_turn _ _ _ _ _ _ _ c.loop-q.invariant c.from_state.ensures c.min-least.ensures
