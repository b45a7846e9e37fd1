-- The whole search: what it comes to are the reached states of the product and the moves between them.
use Rattle.std.specs.Prelude.{◌≡◌, true, false, List, ℕ, ◌≤◌, ◌<◌, length}
use Rattle.automata.specs.Lists.{All}
use Rattle.automata.specs.OrderedSum.{ℕ_sum}
use Rattle.automata.specs.Automaton.{Automaton, Content}
use Rattle.automata.specs.Explore.{Edge, edges}
use Rattle.automata.specs.Search.{search_from}
use Rattle.automata.specs.Product as automata
use Rattle.automata.specs.Product.{same_vertex, product_system, product_states}
use Rattle.table_adjacency.specs.Chains.{Chained}
use Rattle.product_search.specs.declared.plan.Plan.{Plan}
use Rattle.product_search.specs.declared.head.Head.{Head}
use Rattle.product_search.specs.Vertices.{HoldsVertices, VertexBelow}
use Rattle.product_search.specs.Moves.{HoldsMoves}
use Rattle.product_search.specs.Reading.{chained_only}
use Rattle.product_search.specs.Plans.{first_in, second_in}
use Rattle.product_search.specs.Searching.{Comes, Tables, Reads, chained_out}
use Rattle.product_search.specs.Starting.{Open, starts_of}

module _ (p : Plan) (s1 a1 s2 a2 : List ℕ) where
  -- the reached states of the product, or more than there is room for
  abbrev pub reached_in : List automata.Vertex
  reached_in = product_states ℕ_sum p.states (first_in p s1 a1) (second_in p s2 a2)

  -- the moves between them
  abbrev pub edges_in : List (Edge (Content ℕ))
  edges_in = edges same_vertex (product_system ℕ_sum (first_in p s1 a1) (second_in p s2 a2)).out (product_states ℕ_sum p.states (first_in p s1 a1) (second_in p s2 a2))

-- the head r and the work space w hold the reached states and the moves between them
pub record Held (p : Plan) (s1 a1 s2 a2 : List ℕ) (r : Head) (w : List ℕ) : Type 0 where
  pub few : length (reached_in p s1 a1 s2 a2) ≤ p.states
  pub reached_is : r.reached ≡ length (reached_in p s1 a1 s2 a2)
  pub vertices : HoldsVertices (reached_in p s1 a1 s2 a2) w
  pub below : All (VertexBelow (length (first_in p s1 a1).states) (length (second_in p s2 a2).states)) (reached_in p s1 a1 s2 a2)
  pub arcs_is : r.arcs ≡ length (edges_in p s1 a1 s2 a2)
  pub moves : HoldsMoves (first_in p s1 a1) (second_in p s2 a2) (reached_in p s1 a1 s2 a2) p.base p.arcs (edges_in p s1 a1 s2 a2) w

-- ---- taking up all that is reached

module _ (p : Plan) (A B : Automaton ℕ) where
  -- the states that are reached by the arcs in chains, or more than there is room for
  abbrev pub chained_states : List ℕ → List ℕ → List automata.Vertex
  chained_states n1 n2 = product_states ℕ_sum p.states (chained_only n1 A) (chained_only n2 B)

  -- the head r and the work space w hold them and the moves between them, or the head is full and there are more than
  -- there is room for
  abbrev pub ComesToReached : List ℕ → List ℕ → Head → List ℕ → Type 0
  ComesToReached n1 n2 r w = Comes p A B r (record { vertices = chained_states n1 n2; edges = edges same_vertex (chained_out n1 n2 A B) (chained_states n1 n2) }) w

-- they may be taken up: nothing was yet
pub record Runnable (p : Plan) (h : Head) (s1 a1 s2 a2 : List ℕ) (size : ℕ) : Type 0 where
  pub open_still : Open p h size
  pub tables : Tables p s1 a1 s2 a2
  pub taken : h.taken ≡ 0
  pub arcs_none : h.arcs ≡ 0

-- they were taken up
pub record Runs (p : Plan) (h : Head) (s1 a1 n1 s2 a2 n2 : List ℕ) (v : List ℕ) (r : Head) (w : List ℕ) : Type 0 where
  pub same_length : length w ≡ length v
  pub few : r.arcs ≤ 1000000000000
  pub meaning : (A B : Automaton ℕ) → Reads p s1 a1 s2 a2 A B → Comes p A B h (search_from same_vertex (starts_of A B)) v → ComesToReached p A B n1 n2 r w

-- a search from no state on was made by the arcs in chains
pub record Searches (p : Plan) (s1 a1 n1 s2 a2 n2 : List ℕ) (v : List ℕ) (r : Head) (w : List ℕ) : Type 0 where
  pub same_length : length w ≡ length v
  pub few : r.arcs ≤ 1000000000000
  pub comes : ComesToReached p (first_in p s1 a1) (second_in p s2 a2) n1 n2 r w

-- all arcs of both tables stand in the chains of their sources
pub record AllChained (p : Plan) (a1 f1 n1 a2 f2 n2 : List ℕ) : Type 0 where
  pub first : Chained p.first.states p.first.arcs a1 f1 n1
  pub second : Chained p.second.states p.second.arcs a2 f2 n2

-- where there are more arcs than there is room for, it was told whether there are more states as well
pub record Recounts (p : Plan) (s1 a1 s2 a2 : List ℕ) (arcs : ℕ) (v : List ℕ) (r : Head) (w : List ℕ) : Type 0 where
  pub same_length : length w ≡ length v
  pub arcs_is : r.arcs ≡ arcs
  pub over : r.full ≡ true → p.states < length (reached_in p s1 a1 s2 a2)
  pub fits : r.full ≡ false → length (reached_in p s1 a1 s2 a2) ≤ p.states

-- What the whole search leaves: there are more states than there is room for; or all that is reached, unless there are
-- more arcs than there is room for.
pub record Explored (p : Plan) (s1 a1 s2 a2 : List ℕ) (v : List ℕ) (r : Head) (w : List ℕ) : Type 0 where
  pub same_length : length w ≡ length v
  pub over : r.full ≡ true → p.states < length (reached_in p s1 a1 s2 a2)
  pub more : r.full ≡ false → p.arcs < r.arcs → (length (reached_in p s1 a1 s2 a2) ≤ p.states) × (p.arcs < length (edges_in p s1 a1 s2 a2))
  pub held : r.full ≡ false → r.arcs ≤ p.arcs → Held p s1 a1 s2 a2 r w
