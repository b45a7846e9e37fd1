use Rattle.lookup_cells.proofs.EndFacts.{starts_none, starts_some}
use Rattle.lookup_cells.proofs.ends.start_state.Goals as goal

pub returns-in-Some : goal.returns-in-Some
returns-in-Some c = starts_some _ _ _ _ c.load_state.ensures _ _ _ _ _ c.in-Some.is c.cell_number.ensures (rw c.from.ensures at c.lower.ensures)

pub returns-in_default : goal.returns-in_default
returns-in_default c = starts_none _ _ _ _ c.load_state.ensures _ c.in_default.is
