-- The answer of a product by what the search over its states left in work space.
use Rattle.std.specs.Prelude.{◌≡◌, true, false, List, ℕ, ◌+◌, ◌/◌, ◌≤◌, ◌<◌, length}
use Rattle.automata.specs.Space.{Space, state_cap, arc_cap}
use Rattle.automata.specs.Layout.{arc_size, state_size}
use Rattle.product_search.specs.declared.plan.Plan.{Plan}
use Rattle.product_search.specs.declared.head.Head.{Head}
use Rattle.product_search.specs.Plans.{Explorable}
use Rattle.product_search.specs.Exploring.{reached_in, edges_in, Held}

-- the space in slices of so many bytes
abbrev pub space_in : ℕ → ℕ → Space
space_in for_states for_arcs = record { states = for_states / state_size; arcs = for_arcs / arc_size }

-- a search was made by a plan for slices of so many bytes
pub record Answerable (p : Plan) (s1 a1 s2 a2 : List ℕ) (r : Head) (w : List ℕ) (for_states for_arcs : ℕ) : Type 0 where
  pub explorable : Explorable p s1 a1 s2 a2 (length w)
  pub tapes_fit : p.first.tapes + p.second.tapes ≤ 8
  pub state_cap_is : p.states ≡ state_cap (space_in for_states for_arcs)
  pub arc_cap_is : p.arcs ≡ arc_cap (space_in for_states for_arcs)
  pub over : r.full ≡ true → p.states < length (reached_in p s1 a1 s2 a2)
  pub more : r.full ≡ false → p.arcs < r.arcs → (length (reached_in p s1 a1 s2 a2) ≤ p.states) × (p.arcs < length (edges_in p s1 a1 s2 a2))
  pub held : r.full ≡ false → r.arcs ≤ p.arcs → Held p s1 a1 s2 a2 r w
