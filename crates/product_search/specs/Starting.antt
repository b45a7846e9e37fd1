-- The states of the product in which paths start: what entering one comes to, and what all of them do.
use Rattle.std.specs.Prelude.{◌≡◌, List, [], ◌∷◌, ℕ, zero, ◌+◌, ◌*◌, ◌≤◌, ◌<◌, length}
use Rattle.automata.specs.Automaton.{Automaton}
use Rattle.automata.specs.Explore.{insert_all}
use Rattle.automata.specs.Search.{search_from}
use Rattle.automata.specs.Product as automata
use Rattle.automata.specs.Product.{same_vertex, initials_from, all_pairs}
use Rattle.automata.specs.Layout.{state_size, step_size, vertex_size}
use Rattle.table.specs.Records.{state_as, state_at}
use Rattle.search_rows.specs.Progress as search
use Rattle.product_search.specs.declared.vertex.Vertex.{Vertex}
use Rattle.product_search.specs.declared.plan.Plan.{Plan}
use Rattle.product_search.specs.declared.head.Head.{Head}
use Rattle.product_search.specs.Vertices.{vertex_of, ChainedVertices, VertexBelow}
use Rattle.product_search.specs.Reading.{StatesLent, ReadsStates}
use Rattle.product_search.specs.Searching.{progress, VertexSearch, Comes}

-- the search with further states of the product, and no move more
abbrev pub with_vertices : VertexSearch → List automata.Vertex → VertexSearch
with_vertices s cs = record { vertices = insert_all same_vertex s.vertices cs; edges = s.edges }

-- from the head h and the work space v to r and w the states cs were entered, whatever search was held
abbrev pub Enters : Plan → Automaton ℕ → Automaton ℕ → List automata.Vertex → Head → List ℕ → Head → List ℕ → Type 0
Enters p A B cs h v r w = (s : VertexSearch) → Comes p A B h s v → Comes p A B r (with_vertices s cs) w

-- states may be entered in a work space of so many bytes
pub record Open (p : Plan) (h : Head) (size : ℕ) : Type 0 where
  pub vertices_fit : vertex_size * p.states ≤ p.base
  pub moves_fit : p.base + step_size * p.arcs ≤ size
  pub few_states : p.states ≤ 1024
  pub fits : h.reached ≤ p.states

-- they were, within the bounds
abbrev pub Widens : Plan → Head → List ℕ → Head → List ℕ → Type 0
Widens p h v r w = search.Widens p.states (progress h) v (progress r) w

-- the state d was entered
pub record Admits (p : Plan) (h : Head) (d : Vertex) (v : List ℕ) (r : Head) (w : List ℕ) : Type 0 where
  pub widens : Widens p h v r w
  pub meaning : (A B : Automaton ℕ) (t : automata.Vertex) → length A.states ≤ 1024 → length B.states ≤ 1024
      → d ≡ vertex_of t → VertexBelow (length A.states) (length B.states) t → Enters p A B (t ∷ []) h v r w

-- the state with number q of the second side was looked at, for the state with number x of the first
pub record StartsOne (p : Plan) (h : Head) (x : ℕ) (states : List ℕ) (q : ℕ) (v : List ℕ) (r : Head) (w : List ℕ) : Type 0 where
  pub widens : Widens p h v r w
  pub meaning : (A B : Automaton ℕ) → length A.states ≤ 1024 → ReadsStates p.second states B → x < length A.states
      → Enters p A B (all_pairs (x ∷ []) (initials_from q (state_as (state_at (state_size * q) states) ∷ []))) h v r w

-- all of them were
pub record StartsAll (p : Plan) (h : Head) (x : ℕ) (states : List ℕ) (v : List ℕ) (r : Head) (w : List ℕ) : Type 0 where
  pub widens : Widens p h v r w
  pub meaning : (A B : Automaton ℕ) → length A.states ≤ 1024 → ReadsStates p.second states B → x < length A.states
      → Enters p A B (all_pairs (x ∷ []) (initials_from zero B.states)) h v r w

-- the state with number q of the first side was looked at with all of the second side
pub record StartsBoth (p : Plan) (h : Head) (s1 : List ℕ) (q : ℕ) (s2 : List ℕ) (v : List ℕ) (r : Head) (w : List ℕ) : Type 0 where
  pub widens : Widens p h v r w
  pub meaning : (A B : Automaton ℕ) → ReadsStates p.first s1 A → ReadsStates p.second s2 B
      → Enters p A B (all_pairs (initials_from q (state_as (state_at (state_size * q) s1) ∷ [])) (initials_from zero B.states)) h v r w

-- all pairs of initial states
abbrev pub starts_of : Automaton ℕ → Automaton ℕ → List automata.Vertex
starts_of A B = all_pairs (initials_from zero A.states) (initials_from zero B.states)

-- the search may begin
pub record Beginnable (p : Plan) (s1 s2 : List ℕ) (size : ℕ) : Type 0 where
  pub vertices_fit : vertex_size * p.states ≤ p.base
  pub moves_fit : p.base + step_size * p.arcs ≤ size
  pub few_states : p.states ≤ 1024
  pub first_lent : StatesLent p.first s1
  pub second_lent : StatesLent p.second s2

-- the search has begun, from chains that are all empty: no state is taken up
pub record Begun (p : Plan) (s1 s2 : List ℕ) (v : List ℕ) (r : Head) (w : List ℕ) : Type 0 where
  pub taken : r.taken ≡ 0
  pub arcs : r.arcs ≡ 0
  pub fits : r.reached ≤ p.states
  pub same_length : length w ≡ length v
  pub meaning : ChainedVertices p.states 0 v → (A B : Automaton ℕ) → ReadsStates p.first s1 A → ReadsStates p.second s2 B
      → Comes p A B r (search_from same_vertex (starts_of A B)) w
