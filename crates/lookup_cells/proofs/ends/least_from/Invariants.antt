use mathlib.Core.Path.{◌≡◌}
use Rattle.lookup_moves.specs.Distances.{cells_of}
use Rattle.lookup_cells.specs.Ends.{least_up_to}
use Rattle.lookup_cells.proofs.ends.least_from.Given as goal

abbrev pub invariant-loop-q : goal.invariant-loop-q
invariant-loop-q l = l.least ≡ least_up_to l.q l.states l.all (cells_of l.work)
