use Rattle.path_search.proofs.SearchedFacts.{start_other, start_here}
use mathlib.Core.Path.{refl}
use Rattle.path_search.proofs.search.enter_start.Goals as goal

pub returns-then-from_state-least : goal.returns-then-from_state-least
returns-then-from_state-least c =
    let e = c.enter_cell.ensures in
    (start_here _ _ _ _ _ c.requires.1 _ _ c.from_state.ensures _ _ _ _ c.if-from_state-least.true c.cell_number.ensures e.0, e.1)

pub returns-else-from_state-least : goal.returns-else-from_state-least
returns-else-from_state-least c = (start_other _ _ _ _ _ c.requires.1 _ _ c.from_state.ensures _ _ c.if-from_state-least.false, refl)
