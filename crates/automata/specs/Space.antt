-- The space that is lent to a result, counted in states and arcs.
use Rattle.std.specs.Prelude.{ℕ, min}
use Rattle.automata.specs.Limits.{max_states, max_arcs}

-- how many states and arcs are lent to a result
pub record Space : Type 0 where
  pub states : ℕ
  pub arcs : ℕ

-- what a result may have of them: no more than the greatest table
abbrev pub state_cap : Space → ℕ
state_cap space = min space.states max_states

abbrev pub arc_cap : Space → ℕ
arc_cap space = min space.arcs max_arcs
