-- The search in work space: when a head and the bytes hold a search of the definitions, and what each step comes to.
use Rattle.std.specs.Prelude.{◌≡◌, ◌⊎◌, Bool, true, false, List, [], ◌∷◌, map, ℕ, ◌+◌, ◌*◌, ◌≤◌, ◌<◌, eqb, ltb, length}
use Rattle.std.proofs.Math.Option.{Option, none, some}
use Rattle.std.proofs.Math.ListN.{get_elem?}
use Rattle.automata.specs.Lists.{All, if, filter, is_some}
use Rattle.automata.specs.OrderedSum.{ℕ_sum}
use Rattle.automata.specs.Automaton.{Automaton, Arc, Content, content}
use Rattle.automata.specs.System.{system, out_at, final_at}
use Rattle.automata.specs.Search.{Search, note_all}
use Rattle.automata.specs.Product as automata
use Rattle.automata.specs.Product.{same_vertex, all_both, all_after_first, all_after_second, product_system}
use Rattle.automata.specs.Layout.{arc_size, step_size, vertex_size}
use Rattle.table.specs.declared.answer.Counts.{Counts}
use Rattle.table.specs.Records.{arc_as, arc_at}
use Rattle.search_rows.specs.Comes as search-comes
use Rattle.search_rows.specs.Progress as search
use Rattle.product_search.specs.declared.vertex.Vertex.{Vertex}
use Rattle.product_search.specs.declared.plan.Plan.{Plan}
use Rattle.product_search.specs.declared.head.Head.{Head}
use Rattle.product_search.specs.Vertices.{place_number, vertex_of, HoldsVertices, ChainedVertices, PlaceBelow, VertexBelow}
use Rattle.product_search.specs.Moves.{no_arc, Carries, HoldsMoves}
use Rattle.product_search.specs.Reading.{StatesLent, ArcsLent, ReadsStates, ReadsArcs, LinkedArcs, Walkable, chained_only}

-- how far the search is
abbrev pub progress : Head → search.Progress
progress h = record { taken = h.taken; reached = h.reached; arcs = h.arcs }

-- a head with so many states
abbrev pub with_reached : ℕ → Head → Head
with_reached k h = record { taken = h.taken; reached = k; arcs = h.arcs; full = h.full }

-- a head that is given up
abbrev pub given_up : Head → Head
given_up h = record { taken = h.taken; reached = h.reached; arcs = h.arcs; full = true }

-- a head with one arc more: the search is given up where these are more than are looked for
abbrev pub counted : Plan → Head → Head
counted p h = record { taken = h.taken; reached = h.reached; arcs = h.arcs + 1; full = ltb p.limit (h.arcs + 1) }

-- a head after a move, where k states are now reached: it is given up where these are more than there is room for
abbrev pub moved_to : Plan → Head → ℕ → Head
moved_to p h k = if (ltb p.states k) (given_up h) (counted p (with_reached k h))

-- a search of the definitions: the states of the product found, and the moves noted with what they carry
abbrev pub VertexSearch : Type 0
VertexSearch = Search automata.Vertex (Content ℕ)

-- one labelled move out of a state of the product
abbrev pub Step : Type 0
Step = Content ℕ × automata.Vertex

-- the head and the work space w hold the search s over the product of A and B, and every state stands in the chain of
-- its bucket
pub record Holds (p : Plan) (A B : Automaton ℕ) (h : Head) (s : VertexSearch) (w : List ℕ) : Type 0 where
  pub vertices : HoldsVertices s.vertices w
  pub chained : ChainedVertices p.states (length s.vertices) w
  pub moves : HoldsMoves A B s.vertices p.base p.arcs s.edges w
  pub reached : h.reached ≡ length s.vertices
  pub fits : length s.vertices ≤ p.states
  pub arc_count : h.arcs ≡ length s.edges
  pub below : All (VertexBelow (length A.states) (length B.states)) s.vertices

-- the search s has more states than there is room for, or it and the head r have more moves than are looked for
abbrev pub Exceeds : Plan → Head → VertexSearch → Type 0
Exceeds p r s = (p.states < length s.vertices) ⊎ ((p.limit < r.arcs) × (p.limit < length s.edges))

-- the head r and the work space w hold the search s, or it was given up, and s has more than there is room for or than
-- is looked for
abbrev pub Comes : Plan → Automaton ℕ → Automaton ℕ → Head → VertexSearch → List ℕ → Type 0
Comes p A B r s w = search-comes.Comes r.full (Holds p A B r s w) (Exceeds p r s)

-- From the head h and the work space v to r and w the steps xs out of the state c that is taken up were noted, whatever
-- search was held.
abbrev pub Notes : Plan → Automaton ℕ → Automaton ℕ → automata.Vertex → List Step → Head → List ℕ → Head → List ℕ → Type 0
Notes p A B c xs h v r w = (s : VertexSearch) → Comes p A B h s v → get_elem? s.vertices h.taken ≡ some c
    → Comes p A B r (note_all same_vertex h.taken s xs) w

-- the search may go on in a work space of so many bytes, with at most n moves more
pub record Ready (p : Plan) (h : Head) (n size : ℕ) : Type 0 where
  pub vertices_fit : vertex_size * p.states ≤ p.base
  pub moves_fit : p.base + step_size * p.arcs ≤ size
  pub few_states : p.states ≤ 1024
  pub fits : h.reached ≤ p.states
  pub taken_fits : h.taken < h.reached
  pub few : h.arcs + n ≤ 1000000000000

-- it went on, within the bounds
abbrev pub Grows : Plan → ℕ → Head → List ℕ → Head → List ℕ → Type 0
Grows p n h v r w = search.Grows p.states n (progress h) v (progress r) w

-- ---- a move to one state of the product

-- the state d was reached by the arcs with numbers i and j
pub record Arrives (p : Plan) (h : Head) (d : Vertex) (i j : ℕ) (v : List ℕ) (r : Head) (w : List ℕ) : Type 0 where
  pub grows : Grows p 1 h v r w
  pub meaning : (A B : Automaton ℕ) (c t : automata.Vertex) (l : Content ℕ) → length A.states ≤ 1024 → length B.states ≤ 1024
      → d ≡ vertex_of t → VertexBelow (length A.states) (length B.states) t → Carries A B c i j l → Notes p A B c ((l, t) ∷ []) h v r w

-- ---- the arcs of one side

-- the steps by some arcs out of a place
abbrev pub out_by : List (Arc ℕ) → Option ℕ → List (Content ℕ × ℕ)
out_by xs none = []
out_by xs (some q) = map (λ a. (content a, a.target)) (filter (λ a. eqb a.source q) xs)

-- a step of the second side as a step of the product, by what it carries and where the first side goes
abbrev pub on_second : (Content ℕ → Content ℕ) → Option ℕ → Content ℕ × ℕ → Step
on_second F x r = (F r.0, (x, some r.1))

-- a step of the first side where the second side's path has ended
abbrev pub on_first : (Content ℕ → Content ℕ) → Content ℕ × ℕ → Step
on_first F s = (F s.0, (some s.1, none))

-- The arcs in these bytes are those of the second side, and with the arc of number i of the first side, which leads to
-- the place x, carry what F tells.
pub record BySecond (p : Plan) (arcs : List ℕ) (c : Vertex) (i to : ℕ) (A B : Automaton ℕ) (b : automata.Vertex) (F : Content ℕ → Content ℕ) (x : Option ℕ) : Type 0 where
  pub reads : ReadsArcs p.second arcs B
  pub few : length A.states ≤ 1024
  pub vertex_is : c.second.0 ≡ place_number b.1
  pub place_is : to ≡ place_number x
  pub below : PlaceBelow (length A.states) x
  pub carries : (j : ℕ) (a : Arc ℕ) → get_elem? B.arcs j ≡ some a → Carries A B b i j (F (content a))

-- the same for the first side, where the second side's path has ended
pub record ByFirst (p : Plan) (arcs : List ℕ) (c : Vertex) (A B : Automaton ℕ) (b : automata.Vertex) (F : Content ℕ → Content ℕ) : Type 0 where
  pub reads : ReadsArcs p.first arcs A
  pub few : length B.states ≤ 1024
  pub vertex_is : c.first.0 ≡ place_number b.0
  pub carries : (i : ℕ) (a : Arc ℕ) → get_elem? A.arcs i ≡ some a → Carries A B b i no_arc (F (content a))

-- the arc with number j of the second side was looked at
pub record TriesSecond (p : Plan) (h : Head) (c : Vertex) (i to : ℕ) (arcs : List ℕ) (j : ℕ) (v : List ℕ) (r : Head) (w : List ℕ) : Type 0 where
  pub grows : Grows p 1 h v r w
  pub meaning : (A B : Automaton ℕ) (b : automata.Vertex) (F : Content ℕ → Content ℕ) (x : Option ℕ) → BySecond p arcs c i to A B b F x
      → Notes p A B b (map (on_second F x) (out_by (arc_as p.second.tapes (arc_at (arc_size * j) arcs) ∷ []) b.1)) h v r w

-- all that stand in the chains were
pub record PassesSecond (p : Plan) (h : Head) (c : Vertex) (i to : ℕ) (arcs next : List ℕ) (v : List ℕ) (r : Head) (w : List ℕ) : Type 0 where
  pub grows : Grows p 8192 h v r w
  pub meaning : (A B : Automaton ℕ) (b : automata.Vertex) (F : Content ℕ → Content ℕ) (x : Option ℕ) → BySecond p arcs c i to A B b F x
      → Notes p A B b (map (on_second F x) (out_at ℕ_sum (system (chained_only next B)) b.1)) h v r w

-- the arc with number i of the first side was looked at, where the second side's path has ended
pub record TriesFirst (p : Plan) (h : Head) (c : Vertex) (arcs : List ℕ) (i : ℕ) (v : List ℕ) (r : Head) (w : List ℕ) : Type 0 where
  pub grows : Grows p 1 h v r w
  pub meaning : (A B : Automaton ℕ) (b : automata.Vertex) (F : Content ℕ → Content ℕ) → ByFirst p arcs c A B b F
      → Notes p A B b (map (on_first F) (out_by (arc_as p.first.tapes (arc_at (arc_size * i) arcs) ∷ []) b.0)) h v r w

-- all that stand in the chains were
pub record PassesFirst (p : Plan) (h : Head) (c : Vertex) (arcs next : List ℕ) (v : List ℕ) (r : Head) (w : List ℕ) : Type 0 where
  pub grows : Grows p 8192 h v r w
  pub meaning : (A B : Automaton ℕ) (b : automata.Vertex) (F : Content ℕ → Content ℕ) → ByFirst p arcs c A B b F
      → Notes p A B b (map (on_first F) (out_at ℕ_sum (system (chained_only next A)) b.0)) h v r w

-- ---- the arcs of both sides

-- the arc with number i of the first side was looked at with all of the second side's chains
pub record TriesBoth (p : Plan) (h : Head) (c : Vertex) (a1 a2 n2 : List ℕ) (i : ℕ) (v : List ℕ) (r : Head) (w : List ℕ) : Type 0 where
  pub grows : Grows p 8192 h v r w
  pub meaning : (A B : Automaton ℕ) (b : automata.Vertex) → ReadsArcs p.first a1 A → ReadsArcs p.second a2 B → c ≡ vertex_of b
      → Notes p A B b (all_both ℕ_sum (out_by (arc_as p.first.tapes (arc_at (arc_size * i) a1) ∷ []) b.0) (out_at ℕ_sum (system (chained_only n2 B)) b.1)) h v r w

-- all of both sides' chains were
pub record PassesBoth (p : Plan) (h : Head) (c : Vertex) (a1 n1 a2 n2 : List ℕ) (v : List ℕ) (r : Head) (w : List ℕ) : Type 0 where
  pub grows : Grows p 67108864 h v r w
  pub meaning : (A B : Automaton ℕ) (b : automata.Vertex) → ReadsArcs p.first a1 A → ReadsArcs p.second a2 B → c ≡ vertex_of b
      → Notes p A B b (all_both ℕ_sum (out_at ℕ_sum (system (chained_only n1 A)) b.0) (out_at ℕ_sum (system (chained_only n2 B)) b.1)) h v r w

-- ---- one side after the other side's end

-- e tells whether a path may end in the place with number x of the automaton whose states stand in these bytes
abbrev pub TellsEnd : Counts → List ℕ → ℕ → Bool → Type 0
TellsEnd counts bytes x e = (A : Automaton ℕ) (y : Option ℕ) → ReadsStates counts bytes A → x ≡ place_number y → PlaceBelow (length A.states) y
    → e ≡ is_some (final_at ℕ_sum (system A) y)

-- the second side's arcs were looked at, where the first side's path may end
pub record EndsFirst (p : Plan) (h : Head) (c : Vertex) (s1 a2 n2 : List ℕ) (v : List ℕ) (r : Head) (w : List ℕ) : Type 0 where
  pub grows : Grows p 8192 h v r w
  pub meaning : (A B : Automaton ℕ) (b : automata.Vertex) → ReadsStates p.first s1 A → ReadsArcs p.second a2 B → c ≡ vertex_of b
      → VertexBelow (length A.states) (length B.states) b
      → Notes p A B b (all_after_first ℕ_sum A.tapes (final_at ℕ_sum (system A) b.0) (out_at ℕ_sum (system (chained_only n2 B)) b.1)) h v r w

-- the first side's arcs were looked at, where the second side's path may end
pub record EndsSecond (p : Plan) (h : Head) (c : Vertex) (a1 n1 s2 : List ℕ) (v : List ℕ) (r : Head) (w : List ℕ) : Type 0 where
  pub grows : Grows p 8192 h v r w
  pub meaning : (A B : Automaton ℕ) (b : automata.Vertex) → ReadsArcs p.first a1 A → ReadsStates p.second s2 B → c ≡ vertex_of b
      → VertexBelow (length A.states) (length B.states) b
      → Notes p A B b (all_after_second ℕ_sum B.tapes (final_at ℕ_sum (system B) b.1) (out_at ℕ_sum (system (chained_only n1 A)) b.0)) h v r w

-- ---- one state of the product

-- the records of two tables are lent
pub record Tables (p : Plan) (s1 a1 s2 a2 : List ℕ) : Type 0 where
  pub first_states : StatesLent p.first s1
  pub first_arcs : ArcsLent p.first a1
  pub second_states : StatesLent p.second s2
  pub second_arcs : ArcsLent p.second a2

-- the arcs of both tables stand in chains
pub record Indexed (p : Plan) (a1 f1 n1 a2 f2 n2 : List ℕ) : Type 0 where
  pub first : LinkedArcs p.first a1 f1 n1
  pub second : LinkedArcs p.second a2 f2 n2

-- they are those of A and of B
pub record Reads (p : Plan) (s1 a1 s2 a2 : List ℕ) (A B : Automaton ℕ) : Type 0 where
  pub first_states : ReadsStates p.first s1 A
  pub first_arcs : ReadsArcs p.first a1 A
  pub second_states : ReadsStates p.second s2 B
  pub second_arcs : ReadsArcs p.second a2 B

-- the moves out of a state of the product by the arcs that stand in chains
abbrev pub chained_out : List ℕ → List ℕ → Automaton ℕ → Automaton ℕ → automata.Vertex → List Step
chained_out n1 n2 A B = (product_system ℕ_sum (chained_only n1 A) (chained_only n2 B)).out

-- d arcs stand in the chain of the place with number x, of whatever table the chains are
pub record Leaves (counts : Counts) (first next : List ℕ) (x d : ℕ) : Type 0 where
  pub few : d ≤ 8192
  pub meaning : (arcs : List ℕ) (A : Automaton ℕ) (y : Option ℕ) → LinkedArcs counts arcs first next → ReadsArcs counts arcs A → x ≡ place_number y
      → d ≡ length (out_at ℕ_sum (system (chained_only next A)) y)

-- the chains of both tables may be walked along
pub record Countable (p : Plan) (s1 f1 n1 s2 f2 n2 : List ℕ) : Type 0 where
  pub first_states : StatesLent p.first s1
  pub first_chains : Walkable p.first f1 n1
  pub second_states : StatesLent p.second s2
  pub second_chains : Walkable p.second f2 n2

-- so many moves lead out of the state c by the arcs that stand in chains
pub record CountsMoves (p : Plan) (c : Vertex) (s1 f1 n1 s2 f2 n2 : List ℕ) (count : ℕ) : Type 0 where
  pub few : count ≤ 67125248
  pub meaning : (a1 a2 : List ℕ) (A B : Automaton ℕ) (b : automata.Vertex) → Indexed p a1 f1 n1 a2 f2 n2 → Reads p s1 a1 s2 a2 A B → c ≡ vertex_of b
      → VertexBelow (length A.states) (length B.states) b → count ≡ length (chained_out n1 n2 A B b)

-- the next state was taken up: all these moves out of it were noted
pub record TakesUp (p : Plan) (h : Head) (s1 a1 n1 s2 a2 n2 : List ℕ) (v : List ℕ) (r : Head) (w : List ℕ) : Type 0 where
  pub taken : r.full ≡ false → r.taken ≡ h.taken + 1
  pub fits : r.reached ≤ p.states
  pub few : r.arcs ≤ h.arcs + 67125248
  pub same_length : length w ≡ length v
  pub meaning : (A B : Automaton ℕ) (s : VertexSearch) (c : automata.Vertex) → Reads p s1 a1 s2 a2 A B → Comes p A B h s v
      → get_elem? s.vertices h.taken ≡ some c → Comes p A B r (note_all same_vertex h.taken s (chained_out n1 n2 A B c)) w
