-- What a step of a join asks for its product: two tables that were judged, at most eight tapes, and enough work space.
use Rattle.std.specs.Prelude.{ℕ, ◌+◌, ◌/◌, ◌≤◌}
use Rattle.automata.specs.Memory.{Memory, Sound}
use Rattle.automata.specs.Calls.Work.{product_work}
use Rattle.automata.specs.Layout.{arc_size, state_size}

-- two tables in memory, for slices of so many bytes and so many bytes of work space
pub record Multipliable (a b : Memory) (for_states for_arcs size : ℕ) : Type 0 where
  pub first : Sound a
  pub second : Sound b
  pub tapes_fit : a.tapes + b.tapes ≤ 8
  pub work_fits : product_work (record { states = for_states / state_size; arcs = for_arcs / arc_size }) ≤ size
