-- What a search over the states of a product reads: two tables in memory, and a work space in parts.
use Rattle.std.specs.Prelude.{List, ℕ, ◌+◌, ◌*◌, ◌≤◌}
use Rattle.automata.specs.Automaton.{Automaton}
use Rattle.automata.specs.Memory.{Sound, table_of}
use Rattle.automata.specs.Layout.{step_size, vertex_size}
use Rattle.table.specs.Answers.{lent}
use Rattle.product_search.specs.declared.plan.Plan.{Plan}

-- the first table read, with the bytes of its records
abbrev pub first_in : Plan → List ℕ → List ℕ → Automaton ℕ
first_in p states arcs = table_of (lent p.first states arcs)

-- the second table read
abbrev pub second_in : Plan → List ℕ → List ℕ → Automaton ℕ
second_in p states arcs = table_of (lent p.second states arcs)

-- the bytes hold two tables, and the work space of so many bytes has room for the states and the moves
pub record Explorable (p : Plan) (s1 a1 s2 a2 : List ℕ) (size : ℕ) : Type 0 where
  pub first_sound : Sound (lent p.first s1 a1)
  pub second_sound : Sound (lent p.second s2 a2)
  pub vertices_fit : vertex_size * p.states ≤ p.base
  pub moves_fit : p.base + step_size * p.arcs ≤ size
  pub few_states : p.states ≤ 1024
  pub few_arcs : p.arcs ≤ 8192

-- the plan of a search for states alone: no move is noted, and as many are looked for as there can be
abbrev pub states_only : Plan → Plan
states_only p = record { first = p.first; second = p.second; states = p.states; arcs = 0; base = p.base; limit = 1000000000000 }
