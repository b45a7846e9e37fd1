-- The cells of a lookup once all are filled.
use Rattle.std.specs.Prelude.{◌≡◌, List, ℕ, ◌≤◌, ◌<◌, get_or}
use Rattle.automata.specs.OrderedSum.{ℕ_sum}
use Rattle.automata.specs.Automaton.{Automaton, Tuple, size}
use Rattle.automata.specs.LeastPath.{least_onward}
use Rattle.automata.specs.Cells.{Positions, drop_all, cell}
use Rattle.lookup_moves.specs.Distances.{far, weight_of}

-- each cell has the least weight to the end from its state and positions on, and no number is above that for "none"
pub record Filled (A : Automaton ℕ) (t : Tuple) (xs : List ℕ) : Type 0 where
  pub below : (k : ℕ) → get_or xs k 0 ≤ far
  pub least : (q : ℕ) (ps : List ℕ) → q < size A → Positions ps t → weight_of (get_or xs (cell q ps t) 0) ≡ least_onward ℕ_sum A q (drop_all ps t)
