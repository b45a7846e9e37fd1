use Rattle.lookup_moves.proofs.CellFacts.{cells_get}
use mathlib.Core.Path.{◌∙◌}
use Rattle.lookup_moves.proofs.cell.weight_at.Goals as goal

pub returns : goal.returns
returns c = c.get64.ensures ∙ cells_get _ _ c.requires
