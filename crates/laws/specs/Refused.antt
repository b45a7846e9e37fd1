-- The cases in which an operation refuses, one constructor for each, in the order in which they are judged. Of the
-- auto-intersection and of the product they speak of what can be reached, in whatever order a search finds it.
use Rattle.std.specs.Prelude.{◌≡◌, ◌⊎◌, Bool, true, false, List, map, ℕ, zero, ◌+◌, ◌≤◌, ◌<◌, length}
use Rattle.std.proofs.Math.Option.{some}
use Rattle.automata.specs.Limits.{max_tapes, max_pairs, max_delay, max_string}
use Rattle.automata.specs.Symbols.{is_symbol}
use Rattle.automata.specs.Lists.{◌∈◌, Distinct}
use Rattle.automata.specs.Refusal
use Rattle.automata.specs.Answer.{ok, refused}
use Rattle.automata.specs.Space.{Space, state_cap, arc_cap}
use Rattle.automata.specs.OrderedSum.{OrderedSum, ℕ_sum}
use Rattle.automata.specs.Automaton.{Automaton, Arc, Content, Tuple, size}
use Rattle.automata.specs.TapePair.{Pair, TapePair, tapes_of, behind}
use Rattle.automata.specs.Tapes.{place_after}
use Rattle.automata.specs.Paths.{SuccessfulPath}
use Rattle.automata.specs.LeastPath.{FirstLeast}
use Rattle.automata.specs.Config.{Config, too_long}
use Rattle.automata.specs.Closing.{closing_tables, viable}
use Rattle.automata.specs.Explore.{Reachable}
use Rattle.automata.specs.Intersect.{starts, candidates, out}
use Rattle.automata.specs.IntersectCall.{named}
use Rattle.automata.specs.Product.{Vertex, product_system, initials_from, all_pairs, cross_product}
use Rattle.automata.specs.TableText.{write_table}
use Rattle.automata.specs.Join.{Lent}
use Rattle.automata.specs.Calls.Work.{lookup_work, path_work}
use Rattle.automata.specs.Calls.Lookup.{lines}
use Rattle.automata.specs.Calls.LeastPath.{places_in}

-- ---- counting

-- more than n things have the property: so many can be listed, each once
abbrev pub MoreThan : {X : Type 0} → ℕ → (X → Type 0) → Type 0
MoreThan {X} n P = (xs : List X) × Distinct xs × ((x : X) → x ∈ xs → P x) × (n < length xs)

-- the steps out of what is reachable, each known by where it starts and its place among the steps from there
abbrev pub Step : {C L : Type 0} → (C → List (L × C)) → List C → C × ℕ → Type 0
Step out from x = Reachable out from x.0 × (x.1 < length (out x.0))

-- ---- what is asked of tapes, pairs and strings

-- each of these tapes is one of n
abbrev pub TapesThere : ℕ → List ℕ → Type 0
TapesThere n js = (j : ℕ) → j ∈ js → (1 ≤ j) × (j ≤ n)

-- at most four pairs, and no tape named twice
abbrev pub PairsApart : List Pair → Type 0
PairsApart ps = (length ps ≤ max_pairs) × Distinct (named ps)

-- of a join: the first tapes are of n, the second of m; no tape is named twice on one side
abbrev pub JoinTapesThere : ℕ → ℕ → List Pair → Type 0
JoinTapesThere n m ps = (p : Pair) → p ∈ ps → ((1 ≤ p.first) × (p.first ≤ n)) × ((1 ≤ p.second) × (p.second ≤ m))

abbrev pub SidesApart : List Pair → Type 0
SidesApart ps = (length ps ≤ max_pairs) × (Distinct (map (λ p. p.first) ps) × Distinct (map (λ p. p.second) ps))

-- no pair's limit is above 64
abbrev pub LimitsLow : List TapePair → Type 0
LimitsLow ps = (p : TapePair) → p ∈ ps → p.limit ≤ max_delay

-- a choice that is not empty, of tapes that are there
abbrev pub MayChoose : ℕ → List ℕ → Type 0
MayChoose n js = (zero < length js) × TapesThere n js

-- a set of places below n, of the eight that a mask marks, that leaves one
abbrev pub MayDrop : (ℕ → Bool) → ℕ → Type 0
MayDrop d n = ((k : ℕ) → k < max_tapes → d k ≡ true → k < n) × (zero < place_after d n)

-- strings of at most 64 bytes, all symbols
abbrev pub ShortStrings : Tuple → Type 0
ShortStrings t = (s : List ℕ) → s ∈ t → length s ≤ max_string

abbrev pub SymbolStrings : Tuple → Type 0
SymbolStrings t = (s : List ℕ) → s ∈ t → (c : ℕ) → c ∈ s → is_symbol c ≡ true

-- ---- the build

module _ {W : Type 0} (A : Automaton W) (ps : List TapePair) where
  -- the configurations that viable compatible steps within the limits lead to from the initial ones, and these steps
  abbrev pub Reached : Config → Type 0
  Reached = Reachable (out A ps (viable (closing_tables A ps))) (starts A ps (viable (closing_tables A ps)))

  abbrev pub ReachedStep : Config × ℕ → Type 0
  ReachedStep = Step (out A ps (viable (closing_tables A ps))) (starts A ps (viable (closing_tables A ps)))

  -- the compatible steps of a configuration that lead to a viable one, within the limits or not
  abbrev pub viable_steps : Config → List ((ℕ × Arc W) × Config)
  viable_steps = candidates A ps (viable (closing_tables A ps))

-- why the auto-intersection refuses; what `viable` asks is said by `viable-by-delays` (proofs/BuildRefused)
pub data BuildRefused {W : Type 0} (A : Automaton W) (ps : List TapePair) (space : Space) : ℕ → Type 0 where
  -- more configurations are reached than the space holds
  build_states : MoreThan (state_cap space) (Reached A ps) → BuildRefused A ps space Refusal.states_full
  -- else more arcs stand between them
  build_arcs : ¬ MoreThan (state_cap space) (Reached A ps) → MoreThan (arc_cap space) (ReachedStep A ps) → BuildRefused A ps space Refusal.arcs_full
  -- else a viable compatible step from a reached configuration leaves more of some pair than its limit
  build-delay : ¬ MoreThan (state_cap space) (Reached A ps) → ¬ MoreThan (arc_cap space) (ReachedStep A ps)
      → (c : Config) (s : (ℕ × Arc W) × Config) → Reached A ps c → s ∈ viable_steps A ps c → too_long ps s.1.leftovers ≡ true
      → BuildRefused A ps space Refusal.delay

-- why the call refuses, of a table that was judged good
pub data BuildCallRefused {W : Type 0} (enough : Bool) (space : Space) (ps : List TapePair) (A : Automaton W) : ℕ → Type 0 where
  build-tape : ¬ TapesThere A.tapes (named (tapes_of ps)) → BuildCallRefused enough space ps A Refusal.tape
  build-pairs : TapesThere A.tapes (named (tapes_of ps)) → ¬ PairsApart (tapes_of ps)
      → BuildCallRefused enough space ps A Refusal.pairs
  -- some pair's limit is above 64
  build-limit : TapesThere A.tapes (named (tapes_of ps)) → PairsApart (tapes_of ps) → (p : TapePair) → p ∈ ps → max_delay < p.limit
      → BuildCallRefused enough space ps A Refusal.limit
  build_work_lem : TapesThere A.tapes (named (tapes_of ps)) → PairsApart (tapes_of ps) → LimitsLow ps → enough ≡ false
      → BuildCallRefused enough space ps A Refusal.space
  build_itself : TapesThere A.tapes (named (tapes_of ps)) → PairsApart (tapes_of ps) → LimitsLow ps → enough ≡ true
      → (n : ℕ) → BuildRefused A ps space n → BuildCallRefused enough space ps A n

-- ---- the forecast

-- why the call refuses, of a table that was judged good; no limit is read
pub data ForecastRefused {W : Type 0} (enough : Bool) (ps : List Pair) (A : Automaton W) : ℕ → Type 0 where
  forecast-tape : ¬ TapesThere A.tapes (named ps) → ForecastRefused enough ps A Refusal.tape
  forecast-pairs : TapesThere A.tapes (named ps) → ¬ PairsApart ps → ForecastRefused enough ps A Refusal.pairs
  forecast-space : TapesThere A.tapes (named ps) → PairsApart ps → enough ≡ false → ForecastRefused enough ps A Refusal.space

-- ---- the product

module _ (S : OrderedSum) (A B : Automaton S.W) where
  open S use {W}

  -- the states of the product: pairs of places that the paths reach together
  abbrev pub ProductState : Vertex → Type 0
  ProductState = Reachable (product_system S A B).out (all_pairs (initials_from zero A.states) (initials_from zero B.states))

  -- and its arcs
  abbrev pub ProductStep : Vertex × ℕ → Type 0
  ProductStep = Step (product_system S A B).out (all_pairs (initials_from zero A.states) (initials_from zero B.states))

  -- w is a weight at this state of the product: its initial or its final one, or that of a step from it
  abbrev pub WeightAt : Vertex → W → Type 0
  WeightAt c w = ((product_system S A B).initial c ≡ some w) ⊎ (((product_system S A B).final c ≡ some w)
      ⊎ ((s : Content W) × (d : Vertex) × ((s, d) ∈ (product_system S A B).out c) × (s.weight ≡ w)))

-- why the product refuses
pub data ProductRefused (S : OrderedSum) (fits : S.W → Bool) (space : Space) (A B : Automaton S.W) : ℕ → Type 0 where
  -- more states can be reached than the space holds
  product_states_lem : MoreThan (state_cap space) (ProductState S A B) → ProductRefused S fits space A B Refusal.states_full
  -- else more arcs
  product_arcs : ¬ MoreThan (state_cap space) (ProductState S A B) → MoreThan (arc_cap space) (ProductStep S A B)
      → ProductRefused S fits space A B Refusal.arcs_full
  -- else a summed weight is out of range
  product-weight : ¬ MoreThan (state_cap space) (ProductState S A B) → ¬ MoreThan (arc_cap space) (ProductStep S A B)
      → (c : Vertex) (w : S.W) → ProductState S A B c → WeightAt S A B c w → fits w ≡ false → ProductRefused S fits space A B Refusal.weight

-- why the call refuses, of tables that were judged good
pub data ProductCallRefused (S : OrderedSum) (fits : S.W → Bool) (enough : Bool) (space : Space) (A B : Automaton S.W) : ℕ → Type 0 where
  product-width : max_tapes < A.tapes + B.tapes → ProductCallRefused S fits enough space A B Refusal.width
  product_work_lem : A.tapes + B.tapes ≤ max_tapes → enough ≡ false → ProductCallRefused S fits enough space A B Refusal.space
  product_itself : A.tapes + B.tapes ≤ max_tapes → enough ≡ true → (n : ℕ) → ProductRefused S fits space A B n → ProductCallRefused S fits enough space A B n

-- ---- the join

-- what is judged before any step
pub record JoinTested (lent : Lent) (ps : List TapePair) (n m : ℕ) : Type 0 where
  pub narrow : n + m ≤ max_tapes
  pub in_range : JoinTapesThere n m (tapes_of ps)
  pub separated : SidesApart (tapes_of ps)
  pub low : LimitsLow ps
  pub enough : lent.enough ≡ true

-- Why the join refuses, of tables that were judged good: a test before any step, else the first step that refuses, with
-- its refusal. The last step, dropping, does not refuse.
pub data JoinRefused (S : OrderedSum) (fits : S.W → Bool) (lent : Lent) (ps : List TapePair) (A B : Automaton S.W) : ℕ → Type 0 where
  join-width : max_tapes < A.tapes + B.tapes → JoinRefused S fits lent ps A B Refusal.width
  join-tape : A.tapes + B.tapes ≤ max_tapes → ¬ JoinTapesThere A.tapes B.tapes (tapes_of ps) → JoinRefused S fits lent ps A B Refusal.tape
  join-pairs : A.tapes + B.tapes ≤ max_tapes → JoinTapesThere A.tapes B.tapes (tapes_of ps) → ¬ SidesApart (tapes_of ps)
      → JoinRefused S fits lent ps A B Refusal.pairs
  join-limit : A.tapes + B.tapes ≤ max_tapes → JoinTapesThere A.tapes B.tapes (tapes_of ps) → SidesApart (tapes_of ps)
      → (p : TapePair) → p ∈ ps → max_delay < p.limit → JoinRefused S fits lent ps A B Refusal.limit
  join_work_lem : A.tapes + B.tapes ≤ max_tapes → JoinTapesThere A.tapes B.tapes (tapes_of ps) → SidesApart (tapes_of ps) → LimitsLow ps
      → lent.enough ≡ false → JoinRefused S fits lent ps A B Refusal.space
  -- the product refuses, in the space lent for it
  join-product : JoinTested lent ps A.tapes B.tapes → (n : ℕ) → ProductRefused S fits lent.product A B n → JoinRefused S fits lent ps A B n
  -- the product is given and the build on it refuses
  join-build : JoinTested lent ps A.tapes B.tapes → (P : Automaton S.W) → cross_product S fits lent.product A B ≡ ok P
      → (n : ℕ) → BuildRefused P (behind A.tapes ps) lent.result n → JoinRefused S fits lent ps A B n

-- ---- union, choosing, dropping, writing, lookup and path

-- a table of so many states and arcs does not fit the space lent
pub data FitRefused (states arcs : ℕ) (space : Space) : ℕ → Type 0 where
  fit_states : state_cap space < states → FitRefused states arcs space Refusal.states_full
  fit_arcs : states ≤ state_cap space → arc_cap space < arcs → FitRefused states arcs space Refusal.arcs_full

-- why a union refuses
pub data UnionRefused {W : Type 0} (space : Space) (A B : Automaton W) : ℕ → Type 0 where
  union_tapes : ¬ (A.tapes ≡ B.tapes) → UnionRefused space A B Refusal.tape
  union_fit : A.tapes ≡ B.tapes → (n : ℕ) → FitRefused (length A.states + length B.states) (length A.arcs + length B.arcs) space n
      → UnionRefused space A B n

-- why choosing refuses: more than 8 tapes; an empty choice or a tape that is not there
pub data ProjectRefused {W : Type 0} (space : Space) (js : List ℕ) (A : Automaton W) : ℕ → Type 0 where
  project-width : max_tapes < length js → ProjectRefused space js A Refusal.width
  project-tape : length js ≤ max_tapes → ¬ MayChoose A.tapes js → ProjectRefused space js A Refusal.tape
  project_fit : length js ≤ max_tapes → MayChoose A.tapes js → (n : ℕ) → FitRefused (length A.states) (length A.arcs) space n
      → ProjectRefused space js A n

-- why dropping refuses: a tape that is not there, or none left
pub data DropRefused {W : Type 0} (space : Space) (d : ℕ → Bool) (A : Automaton W) : ℕ → Type 0 where
  drop_tape : ¬ MayDrop d A.tapes → DropRefused space d A Refusal.tape
  drop_fit : MayDrop d A.tapes → (n : ℕ) → FitRefused (length A.states) (length A.arcs) space n → DropRefused space d A n

-- why writing refuses
pub data WriteRefused (output : List ℕ) (A : Automaton ℕ) : ℕ → Type 0 where
  write_space : length output < length (write_table A) → WriteRefused output A Refusal.space

-- why a lookup refuses: the text of the tuple, the number of strings, their sizes, their bytes, the work space
pub data LookupRefused (text work : List ℕ) (A : Automaton ℕ) : ℕ → Type 0 where
  lookup-text : (n : ℕ) → lines text ≡ refused n → LookupRefused text work A n
  lookup_count : (t : Tuple) → lines text ≡ ok t → ¬ (length t ≡ A.tapes) → LookupRefused text work A Refusal.tape
  lookup-size : (t : Tuple) → lines text ≡ ok t → length t ≡ A.tapes → ¬ ShortStrings t → LookupRefused text work A Refusal.size
  lookup-form : (t : Tuple) → lines text ≡ ok t → length t ≡ A.tapes → ShortStrings t
      → ¬ SymbolStrings t → LookupRefused text work A Refusal.form
  lookup_work_lem : (t : Tuple) → lines text ≡ ok t → length t ≡ A.tapes → ShortStrings t
      → SymbolStrings t → length work < lookup_work (size A) t → LookupRefused text work A Refusal.space

-- why the lookup that tells the path refuses: as the lookup does, 13 also where there is no room for what is told; and
-- last a list with fewer places than the first of the least paths has arcs
pub data PathRefused (text : List ℕ) (room : Bool) (list work : List ℕ) (A : Automaton ℕ) : ℕ → Type 0 where
  path-text : (n : ℕ) → lines text ≡ refused n → PathRefused text room list work A n
  path_count : (t : Tuple) → lines text ≡ ok t → ¬ (length t ≡ A.tapes) → PathRefused text room list work A Refusal.tape
  path-size : (t : Tuple) → lines text ≡ ok t → length t ≡ A.tapes → ¬ ShortStrings t → PathRefused text room list work A Refusal.size
  path-form : (t : Tuple) → lines text ≡ ok t → length t ≡ A.tapes → ShortStrings t
      → ¬ SymbolStrings t → PathRefused text room list work A Refusal.form
  path-space : (t : Tuple) → lines text ≡ ok t → length t ≡ A.tapes → ShortStrings t
      → SymbolStrings t → (room ≡ false) ⊎ (length work < path_work (size A) t) → PathRefused text room list work A Refusal.space
  path_list : (t : Tuple) → lines text ≡ ok t → length t ≡ A.tapes → ShortStrings t
      → SymbolStrings t → room ≡ true → path_work (size A) t ≤ length work
      → (π : SuccessfulPath A) → FirstLeast ℕ_sum A t π → places_in list < length π.run → PathRefused text room list work A Refusal.path
