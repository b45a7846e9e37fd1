-- What the search for the least weight of a tuple reads, and what it leaves in the cells.
use Rattle.std.specs.Prelude.{◌≡◌, List, ℕ, ◌+◌, ◌*◌, ◌≤◌, length, get_or}
use Rattle.automata.specs.Automaton.{Tuple}
use Rattle.automata.specs.Memory.{Memory, Sound, table_of}
use Rattle.automata.specs.Calls.Work.{combinations, lookup_work}
use Rattle.lookup_tuple.specs.declared.Strings.{Strings}
use Rattle.lookup_tuple.specs.Strings.{Stands}
use Rattle.lookup_moves.specs.Distances.{far, cells_of}
use Rattle.lookup_cells.specs.Filled.{Filled}

-- the bytes hold a table, a tuple with a string for each of its tapes stands in the text, and the work space of so many
-- bytes has its cells
pub record Fillable (m : Memory) (text : List ℕ) (s : Strings) (size : ℕ) : Type 0 where
  pub sound : Sound m
  pub tuple : Tuple
  pub stands : Stands text tuple s
  pub tapes_are : length tuple ≡ m.tapes
  pub fits : lookup_work m.states tuple ≤ size

-- the cells of a tuple that stands in the text are filled, and those behind them have the number for "none"
pub record CellsFilled (m : Memory) (text : List ℕ) (s : Strings) (work : List ℕ) : Type 0 where
  pub filled : (t : Tuple) → Stands text t s → length t ≡ m.tapes → Filled (table_of m) t (cells_of work)
  pub rest : (t : Tuple) → Stands text t s → (k : ℕ) → m.states * combinations t ≤ k → 8 * k + 8 ≤ length work → get_or (cells_of work) k 0 ≡ far
