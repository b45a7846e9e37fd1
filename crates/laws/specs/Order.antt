-- The order of built tables (document 02, request 2.2), said without the search that keeps it: states are numbered in
-- the order first reached, the initial ones first, the others by the number of the state left and then the arc that
-- leaves it.
use Rattle.std.specs.Prelude.{◌≡◌, ◌⊎◌, ◌↔◌, Bool, true, List, [], ◌∷◌, ◌++◌, map, ℕ, zero, ◌+◌, ◌<◌, length, get_or}
use Rattle.std.proofs.Math.Option.{Option, none, some}
use Rattle.std.proofs.Math.ListN.{get_elem?}
use Rattle.automata.specs.Lists.{◌∈◌, Distinct}
use Rattle.automata.specs.OrderedSum.{OrderedSum}
use Rattle.automata.specs.Automaton.{Arc, Automaton, Tuple, Content, content, size, initial_of, Formed}
use Rattle.automata.specs.Answer.{ok}
use Rattle.automata.specs.Space.{Space}
use Rattle.automata.specs.TapePair.{TapePair, tapes_of, behind}
use Rattle.automata.specs.Tapes.{seconds, chosen, drop_at, place_after}
use Rattle.automata.specs.Config.{Config, start_at, follow}
use Rattle.automata.specs.Viable.{Viable}
use Rattle.automata.specs.Intersect.{Intersection, accepting, state_of, origin}
use Rattle.automata.specs.IntersectCall.{intersect_call}
use Rattle.automata.specs.System.{system, final_at}
use Rattle.automata.specs.Product.{Vertex, both_content, after_first_content, after_second_content, product_system, product}
use Rattle.automata.specs.Projection.{range, relabelled_arc, project, drop_tapes}
use Rattle.automata.specs.Union.{shifted, union}
use Rattle.automata.specs.Join.{Lent, join}

-- ---- keys

-- Starting vertices and the steps out of a vertex are told apart by numbers, such as those of the input's arcs.
abbrev pub Key : Type 0
Key = List ℕ

infix 50 ◌≺◌
-- keys are compared at their first difference
abbrev pub ◌≺◌ : Key → Key → Type 0
[] ≺ [] = ⊥
[] ≺ (n ∷ t) = Unit {0}
(m ∷ s) ≺ [] = ⊥
(m ∷ s) ≺ (n ∷ t) = (m < n) ⊎ ((m ≡ n) × (s ≺ t))

-- a graph by its starting vertices and the steps between its vertices, each with its key
pub record KeyedGraph (C : Type 0) : Type 1 where
  pub Starts : Key → C → Type 0
  pub Steps : C → Key → C → Type 0

-- ---- arrivals

-- how a vertex is reached: as a starting one, or from vertex number i by a step
pub data Arrival : Type 0 where
  start : Key → Arrival
  step : ℕ → Key → Arrival

infix 50 ◌⊏◌
-- starts come before steps; starts by their keys; steps by the number of the vertex left, then by their keys
abbrev pub ◌⊏◌ : Arrival → Arrival → Type 0
start s ⊏ start t = s ≺ t
start s ⊏ step j f = Unit {0}
step i e ⊏ start t = ⊥
step i e ⊏ step j f = (i < j) ⊎ ((i ≡ j) × (e ≺ f))

-- an arrival from a vertex whose number is below k; a start is from none
abbrev pub FromBelow : ℕ → Arrival → Type 0
FromBelow k (start s) = Unit {0}
FromBelow k (step i e) = i < k

-- ---- the order

-- cs numbers vertices: each has its place in it as its number
module _ {C : Type 0} (G : KeyedGraph C) (cs : List C) where
  -- the arrival reaches the vertex
  abbrev pub Reaches : Arrival → C → Type 0
  Reaches (start s) c = G.Starts s c
  Reaches (step i e) c = (b : C) × (get_elem? cs i ≡ some b) × G.Steps b e c

  -- the first arrival at vertex number k: no other comes before it, and it comes from a lower number
  pub record FirstReached (k : ℕ) (x : Arrival) (c : C) : Type 0 where
    pub reaches : Reaches x c
    pub first : (y : Arrival) → Reaches y c → (x ≡ y) ⊎ (x ⊏ y)
    pub from_below : FromBelow k x

  -- The vertices stand in the order first reached.
  pub record Ordered : Type 0 where
    -- each once
    pub distinct : Distinct cs
    -- all that is reached
    pub complete : (x : Arrival) (c : C) → Reaches x c → c ∈ cs
    -- the first arrival at each, by number
    pub arrivals : List Arrival
    pub one_each : length arrivals ≡ length cs
    pub first-reached : (k : ℕ) (x : Arrival) (c : C) → get_elem? arrivals k ≡ some x → get_elem? cs k ≡ some c → FirstReached k x c
    -- the higher number was reached later
    pub increasing : (k l : ℕ) (x y : Arrival) → get_elem? arrivals k ≡ some x → get_elem? arrivals l ≡ some y → k < l → x ⊏ y

-- the vertices ds are some of cs, in the same order: closing the gaps
pub record ClosesGaps {C : Type 0} (cs ds : List C) : Type 0 where
  pub some_of : (c : C) → c ∈ ds → c ∈ cs
  pub in_order : (i j k l : ℕ) (c d : C) → get_elem? cs i ≡ some c → get_elem? ds k ≡ some c → get_elem? cs j ≡ some d → get_elem? ds l ≡ some d
      → (i < j) ↔ (k < l)

-- ---- tables

module _ {W : Type 0} where
  -- The states of a table, by number, and its arcs; the keys of its states and of its arcs are given by their numbers.
  -- The states with an initial weight start.
  abbrev pub table_graph : Automaton W → (ℕ → Key) → (ℕ → Key) → KeyedGraph ℕ
  table_graph A state_key arc_key = record {
    Starts = λ s k. (i : W) × (initial_of A k ≡ some i) × (state_key k ≡ s);
    Steps = λ j e k. (m : ℕ) × (a : Arc W) × (get_elem? A.arcs m ≡ some a) × (a.source ≡ j) × (a.target ≡ k) × (arc_key m ≡ e);
  }

  -- The states stand in the order first reached; the arcs stand by source state, then by key.
  pub record OrderedTable (A : Automaton W) (state_key arc_key : ℕ → Key) : Type 0 where
    pub states : Ordered (table_graph A state_key arc_key) (range zero (size A))
    pub arcs : (m n : ℕ) (a b : Arc W) → get_elem? A.arcs m ≡ some a → get_elem? A.arcs n ≡ some b → m < n
        → step a.source (arc_key m) ⊏ step b.source (arc_key n)

-- ---- the auto-intersection

module _ {W : Type 0} (I : Intersection W) where
  -- the keys of a result: of a state the number of its input state, of an arc the number of its input arc
  abbrev pub input_state : ℕ → Key
  input_state k = get_or (map (λ c. c.state) I.configs) k zero ∷ []

  abbrev pub input_arc : ℕ → Key
  input_arc m = origin I m ∷ []

module _ {W : Type 0} (A : Automaton W) (ps : List TapePair) where
  -- The viable configurations (document 01: hopeful): those of initial states start, keyed by the state's number; a
  -- step is keyed by the number of the arc followed. No limit occurs in it.
  abbrev pub config_graph : KeyedGraph Config
  config_graph = record {
    Starts = λ s c. (q : ℕ) × (i : W) × (initial_of A q ≡ some i) × (c ≡ start_at ps q) × Viable A ps c × (q ∷ [] ≡ s);
    Steps = λ c s d. (e : ℕ) × (a : Arc W) × (get_elem? A.arcs e ≡ some a) × (a.source ≡ c.state) × (follow ps c a ≡ some d) × Viable A ps d × (e ∷ [] ≡ s);
  }

  -- steps lead from the configuration to one in which a path may end
  pub data Live : Config → Type 0 where
    ends : {c : Config} → accepting A c ≡ true → Live c
    goes : {c d : Config} {s : Key} → config_graph.Steps c s d → Live d → Live c

  -- What a result is, number by number.
  pub record IntersectionOrder (I : Intersection W) : Type 0 where
    pub tapes : I.automaton.tapes ≡ A.tapes
    -- the configurations in the order first reached
    pub reached : List Config
    pub reached_ordered : Ordered config_graph reached
    -- the states are those of them from which a path can end, the gaps closed
    pub kept : (c : Config) → (c ∈ I.configs) ↔ ((c ∈ reached) × Live c)
    pub gaps_closed : ClosesGaps reached I.configs
    pub states : I.automaton.states ≡ map (state_of A) I.configs
    -- each arc is a step between them, and is known by its number in the input; each step is an arc
    pub arcs_step : (m : ℕ) (a : Arc W) → get_elem? I.automaton.arcs m ≡ some a
        → (c : Config) × (d : Config) × (b : Arc W) × (get_elem? I.configs a.source ≡ some c) × (get_elem? I.configs a.target ≡ some d)
        × (get_elem? A.arcs (origin I m) ≡ some b) × (b.source ≡ c.state) × (follow ps c b ≡ some d) × (content a ≡ content b)
    pub steps_arc : (k j : ℕ) (c d : Config) (e : ℕ) (b : Arc W) → get_elem? I.configs k ≡ some c → get_elem? I.configs j ≡ some d
        → get_elem? A.arcs e ≡ some b → b.source ≡ c.state → follow ps c b ≡ some d
        → (m : ℕ) × (a : Arc W) × (get_elem? I.automaton.arcs m ≡ some a) × (a.source ≡ k) × (a.target ≡ j) × (content a ≡ content b) × (origin I m ≡ e)
    -- the result by itself: its states in the order first reached, its arcs by source state, then by input arc
    pub result_ordered : OrderedTable I.automaton (input_state I) (input_arc I)

-- ---- the product

-- a pair of states as a key: the first automaton's, then the second's
abbrev pub pair_key : Vertex → Key
pair_key (none, y) = []
pair_key (some p, none) = []
pair_key (some p, some q) = p ∷ q ∷ []

module _ (S : OrderedSum) (A B : Automaton S.W) where
  open S use {W}

  -- arc number e of an automaton leaves the place x
  abbrev pub Leaves : Automaton W → Option ℕ → ℕ → Arc W → Type 0
  Leaves C x e a = (get_elem? C.arcs e ≡ some a) × (x ≡ some a.source)

  -- The moves out of a state of the product by their keys: what a move carries and where it leads. First arc e of the
  -- first automaton with arc f of the second, by e, then f; ...
  abbrev pub MovesBoth : Vertex → Key → Content W × Vertex → Type 0
  MovesBoth c s y = (e : ℕ) × (f : ℕ) × (a : Arc W) × (b : Arc W) × Leaves A c.0 e a × Leaves B c.1 f b
      × (y ≡ (both_content S (content a) (content b), (some a.target, some b.target))) × (0 ∷ e ∷ f ∷ [] ≡ s)

  -- ... then arc f of the second, where the first has ended or ends with the final weight w; ...
  abbrev pub MovesSecond : Vertex → Key → Content W × Vertex → Type 0
  MovesSecond c s y = (f : ℕ) × (b : Arc W) × (w : W) × (final_at S (system A) c.0 ≡ some w) × Leaves B c.1 f b
      × (y ≡ (after_first_content S A.tapes w (content b), (none, some b.target))) × (1 ∷ f ∷ [] ≡ s)

  -- ... then arc e of the first, where the second has ended or ends.
  abbrev pub MovesFirst : Vertex → Key → Content W × Vertex → Type 0
  MovesFirst c s y = (e : ℕ) × (a : Arc W) × (w : W) × (final_at S (system B) c.1 ≡ some w) × Leaves A c.0 e a
      × (y ≡ (after_second_content S B.tapes w (content a), (some a.target, none))) × (2 ∷ e ∷ [] ≡ s)

  -- all of them
  abbrev pub Moves : Vertex → Key → Content W × Vertex → Type 0
  Moves c s y = MovesBoth c s y ⊎ (MovesSecond c s y ⊎ MovesFirst c s y)

  -- all pairs of initial states start, by the first automaton's state, then the second's
  abbrev pub product_graph : KeyedGraph Vertex
  product_graph = record {
    Starts = λ s c. (p : ℕ) × (q : ℕ) × (i : W) × (j : W) × (initial_of A p ≡ some i) × (initial_of B q ≡ some j) × (c ≡ (some p, some q)) × (p ∷ q ∷ [] ≡ s);
    Steps = λ c s d. (l : Content W) × Moves c s (l, d);
  }

  -- What a product is, number by number.
  pub record ProductOrder (P : Automaton W) : Type 0 where
    pub tapes : P.tapes ≡ A.tapes + B.tapes
    -- the states are all pairs that are reached, in the order first reached
    pub vertices : List Vertex
    pub vertices_ordered : Ordered product_graph vertices
    pub states : P.states ≡ map (λ c. record { initial = (product_system S A B).initial c; final = (product_system S A B).final c }) vertices
    -- each arc is a move, and each move an arc
    pub arc_key : ℕ → Key
    pub arcs_move : (m : ℕ) (a : Arc W) → get_elem? P.arcs m ≡ some a
        → (c : Vertex) × (d : Vertex) × (get_elem? vertices a.source ≡ some c) × (get_elem? vertices a.target ≡ some d) × Moves c (arc_key m) (content a, d)
    pub moves_arc : (k : ℕ) (c : Vertex) (s : Key) (l : Content W) (d : Vertex) → get_elem? vertices k ≡ some c → Moves c s (l, d)
        → (m : ℕ) × (a : Arc W) × (get_elem? P.arcs m ≡ some a) × (a.source ≡ k) × (get_elem? vertices a.target ≡ some d) × (content a ≡ l) × (arc_key m ≡ s)
    -- the product by itself: its states in the order first reached, its arcs by source state, then in the order of the
    -- moves
    pub result_ordered : OrderedTable P (λ k. get_or (map pair_key vertices) k []) arc_key

-- ---- join, union, project, drop

module _ {W : Type 0} where
  -- the states and the arcs stand as they did, on n tapes; labels alone are changed, by f
  pub record LabelsOnly (f : Tuple → Tuple) (n : ℕ) (A R : Automaton W) : Type 0 where
    pub tapes : R.tapes ≡ n
    pub states : R.states ≡ A.states
    pub arcs : R.arcs ≡ map (relabelled_arc f) A.arcs

  -- tapes by a list of their numbers, and the tapes left without those at the places d
  abbrev pub ChosenInOrder : List ℕ → Automaton W → Automaton W → Type 0
  ChosenInOrder js A = LabelsOnly (chosen js) (length js) A

  abbrev pub DroppedInOrder : (ℕ → Bool) → Automaton W → Automaton W → Type 0
  DroppedInOrder d A = LabelsOnly (drop_at d) (place_after d A.tapes) A

  -- the states and the arcs of the first, then those of the second, whose states are counted on
  pub record OneAfterOther (A B U : Automaton W) : Type 0 where
    pub tapes : U.tapes ≡ A.tapes
    pub states : U.states ≡ A.states ++ B.states
    pub arcs : U.arcs ≡ A.arcs ++ map (shifted (size A)) B.arcs

  -- an auto-intersection as it is called, without its configurations
  pub record IntersectedInOrder (A : Automaton W) (ps : List TapePair) (R : Automaton W) : Type 0 where
    pub intersection : Intersection W
    pub table : intersection.automaton ≡ R
    pub order : IntersectionOrder A ps intersection

-- a join by its steps: product, auto-intersection by the pairs at their places in the product, second tapes dropped
pub record JoinOrder (S : OrderedSum) (ps : List TapePair) (A B J : Automaton S.W) : Type 0 where
  pub P : Automaton S.W
  pub K : Automaton S.W
  pub product : ProductOrder S A B P
  pub kept : IntersectedInOrder P (behind A.tapes ps) K
  pub dropped : DroppedInOrder (seconds (tapes_of (behind A.tapes ps))) K J

-- ---- the claim

-- R is in the order, and no other table is: numbers, arcs and their order are fixed
pub record Unique {W : Type 0} (InOrder : Automaton W → Type 0) (R : Automaton W) : Type 0 where
  pub ordered : InOrder R
  pub alone : (R' : Automaton W) → InOrder R' → R' ≡ R

-- the claim, for every operation that gives a table
pub record TablesInOrder (S : OrderedSum) (fits : S.W → Bool) : Type 0 where
  pub intersect : (enough : Bool) (space : Space) (ps : List TapePair) (A R : Automaton S.W) → Formed A
      → intersect_call enough space ps A ≡ ok R → Unique (IntersectedInOrder A ps) R
  pub product : (enough : Bool) (space : Space) (A B P : Automaton S.W) → product S fits enough space A B ≡ ok P → Unique (ProductOrder S A B) P
  pub join : (lent : Lent) (ps : List TapePair) (A B J : Automaton S.W) → Formed A → Formed B → join S fits lent ps A B ≡ ok J
      → Unique (JoinOrder S ps A B) J
  pub union : (space : Space) (A B U : Automaton S.W) → union space A B ≡ ok U → Unique (OneAfterOther A B) U
  pub project : (space : Space) (js : List ℕ) (A R : Automaton S.W) → project space js A ≡ ok R → Unique (ChosenInOrder js A) R
  pub drop_tapes : (space : Space) (d : ℕ → Bool) (A R : Automaton S.W) → drop_tapes space d A ≡ ok R → Unique (DroppedInOrder d A) R
