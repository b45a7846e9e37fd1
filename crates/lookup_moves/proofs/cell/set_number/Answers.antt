use Rattle.lookup_moves.proofs.CellFacts.{cells_put}
use borrow.Author.Rules.{rules}
use Rattle.lookup_moves.proofs.cell.set_number.Goals as goal

pub returns : goal.returns
returns c = (cells_put _ _ _ _ c.requires (search rules) c.put64.ensures, c.put64.auto.bytes)
