use Rattle.lookup_cells.proofs.EndFacts.{from-none, from_some}
use Rattle.lookup_cells.proofs.ends.from_state.Goals as goal

pub returns-in-Some : goal.returns-in-Some
returns-in-Some c = rw c.from.ensures (from_some _ _ _ _ _ c.load_state.ensures _ _ _ c.in-Some.is c.cell_number.ensures c.weight_at.ensures)

pub returns-in-None : goal.returns-in-None
returns-in-None c = from-none _ _ _ _ _ c.load_state.ensures c.in-None.is
