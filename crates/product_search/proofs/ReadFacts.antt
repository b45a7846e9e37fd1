-- What the bytes of a state and of an arc tell, and the steps by the first arcs of a table.
use Prim.Native.Nat.{ℕ, zero, suc, ◌+◌, ◌*◌, ◌≤◌, ◌<◌}
use mathlib.Core.Path.{◌≡◌, refl, sym, ap, ◌∙◌}
use mathlib.Core.Bool.{Bool, true, false}
use mathlib.Core.Option.{Option, none, some}
use mathlib.Core.List.{List, [], ◌∷◌, ◌++◌, map, append-nil}
use native.Mathlib.Omega.{arith}
use lib.Dec.{eqb}
use lib.ListN.{length, get_or, get_elem?, take, drop, take-append-drop, length-take}
use lib.Seq.{take_all}
use borrow.Author.Tests.{eq-eqb, ne_eqb}
use Rattle.automata.specs.Lists.{if, filter}
use Rattle.automata.specs.OrderedSum.{ℕ_sum}
use Rattle.automata.specs.Automaton.{Automaton, Arc, Content, content}
use Rattle.automata.specs.System.{system, out_at}
use Rattle.automata.specs.Product as automata
use Rattle.automata.proofs.ListFacts
use Rattle.automata.proofs.AppendFacts
use Rattle.automata.specs.Layout.{arc_size, state_size, final_place}
use Rattle.table.specs.Region.{part}
use Rattle.table.specs.Arcs.{source_at, target_at}
use Rattle.table.specs.Endian.{le}
use Rattle.table.specs.declared.answer.Counts.{Counts}
use Rattle.table.specs.Records.{option_of, state_as, state_at, arc_as, arc_at}
use Rattle.table.proofs.RecordFacts.{weight-absent, weight_present}
use Rattle.product_search.specs.declared.plan.Plan.{Plan}
use Rattle.product_search.specs.declared.head.Head.{Head}
use Rattle.product_search.specs.Vertices.{place_number}
use Rattle.table.specs.Arcs.{source_of, target_of}
use Rattle.table_adjacency.specs.Chains.{in_chain}
use Rattle.product_search.specs.Reading.{ReadsArcs, chained_arcs, chained_only}
use Rattle.product_search.specs.Searching.{Step, Notes, out_by}
use Rattle.product_search.proofs.NoteFacts.{notes_none, notes_then, notes_full, notes_same}

-- ---- fields of records

module _ (q : ℕ) (bytes : List ℕ) where
  -- a state has an initial weight where the first byte of its record is not 0
  pub initial_absent : get_or bytes (state_size * q) 0 ≡ 0 → (state_as (state_at (state_size * q) bytes)).initial ≡ none
  unfolding state_at
  initial_absent e = ap option_of (sym (weight-absent (state_size * q) bytes e))

  pub initial_present : (get_or bytes (state_size * q) 0 ≡ 0 → ⊥) → (w : ℕ) × ((state_as (state_at (state_size * q) bytes)).initial ≡ some w)
  unfolding state_at
  initial_present n = (le (part (state_size * q + 1) 4 bytes), ap option_of (sym (weight_present (state_size * q) bytes _ n refl)))

  -- and a final weight where the sixth is not
  pub final_absent : get_or bytes (state_size * q + final_place) 0 ≡ 0 → (state_as (state_at (state_size * q) bytes)).final ≡ none
  unfolding state_at
  final_absent e = ap option_of (sym (weight-absent (state_size * q + final_place) bytes e))

  pub final_present : (get_or bytes (state_size * q + final_place) 0 ≡ 0 → ⊥) → (w : ℕ) × ((state_as (state_at (state_size * q) bytes)).final ≡ some w)
  unfolding state_at
  final_present n = (le (part (state_size * q + final_place + 1) 4 bytes), ap option_of (sym (weight_present (state_size * q + final_place) bytes _ n refl)))

-- the ends of an arc are the first two numbers of its record
pub source_at_lem : (at : ℕ) (bytes : List ℕ) → (arc_at at bytes).source.0 ≡ source_at at bytes
unfolding arc_at
source_at_lem at bytes = refl

pub target_at_lem : (at : ℕ) (bytes : List ℕ) → (arc_at at bytes).target.0 ≡ target_at at bytes
unfolding arc_at
target_at_lem at bytes = refl

-- the source of an arc that was read is that in its record
pub at_source : (counts : Counts) (bytes : List ℕ) (A : Automaton ℕ) → ReadsArcs counts bytes A → (i : ℕ) (a : Arc ℕ) → i < counts.arcs → get_elem? A.arcs i ≡ some a
    → source_of bytes i ≡ a.source
at_source counts bytes A k i a b e =
    let z : some (arc_as counts.tapes (arc_at (arc_size * i) bytes)) ≡ some a = sym (k.loaded i b) ∙ e in
    let x : arc_as counts.tapes (arc_at (arc_size * i) bytes) ≡ a = cc in
    sym (source_at_lem (arc_size * i) bytes) ∙ ap (λ (y : Arc ℕ). y.source) x

-- and so is its target
pub at_target : (counts : Counts) (bytes : List ℕ) (A : Automaton ℕ) → ReadsArcs counts bytes A → (i : ℕ) (a : Arc ℕ) → i < counts.arcs → get_elem? A.arcs i ≡ some a
    → target_of bytes i ≡ a.target
at_target counts bytes A k i a b e =
    let z : some (arc_as counts.tapes (arc_at (arc_size * i) bytes)) ≡ some a = sym (k.loaded i b) ∙ e in
    let x : arc_as counts.tapes (arc_at (arc_size * i) bytes) ≡ a = cc in
    sym (target_at_lem (arc_size * i) bytes) ∙ ap (λ (y : Arc ℕ). y.target) x

-- ---- the steps by some arcs

-- one arc that leaves the place, and one that does not
pub out_one : (a : Arc ℕ) (q : ℕ) → a.source ≡ q → out_by (a ∷ []) (some q) ≡ (content a, a.target) ∷ []
out_one a q e = ap (λ (b : Bool). map (λ (x : Arc ℕ). (content x, x.target)) (if b (a ∷ []) [])) (eq-eqb a.source q e)

pub out_away : (a : Arc ℕ) (y : Option ℕ) → (a.source ≡ place_number y → ⊥) → out_by (a ∷ []) y ≡ []
out_away a none n = refl
out_away a (some q) n = ap (λ (b : Bool). map (λ (x : Arc ℕ). (content x, x.target)) (if b (a ∷ []) [])) (ne_eqb a.source q n)

-- two lists of arcs
out_append : (xs zs : List (Arc ℕ)) (y : Option ℕ) → out_by (xs ++ zs) y ≡ out_by xs y ++ out_by zs y
out_append xs zs none = refl
out_append xs zs (some q) =
    ap (map (λ (x : Arc ℕ). (content x, x.target))) (AppendFacts.filter_append (λ (a : Arc ℕ). eqb a.source q) xs zs)
    ∙ ListFacts.map_append (λ (x : Arc ℕ). (content x, x.target)) (filter (λ (a : Arc ℕ). eqb a.source q) xs) (filter (λ (a : Arc ℕ). eqb a.source q) zs)

-- no arcs, and all of them
pub out_nil : (y : Option ℕ) → out_by [] y ≡ []
out_nil none = refl
out_nil (some q) = refl

pub out-all : (A : Automaton ℕ) (y : Option ℕ) → out_by A.arcs y ≡ out_at ℕ_sum (system A) y
out-all A none = refl
out-all A (some q) = refl

-- ---- the arcs that stand in chains

-- of two lists
chained_append : (next : List ℕ) (k : ℕ) (xs ys : List (Arc ℕ)) → chained_arcs next k (xs ++ ys) ≡ chained_arcs next k xs ++ chained_arcs next (k + length xs) ys
chained_append next k [] ys = let z : k ≡ k + 0 = omega arith in ap (λ (i : ℕ). chained_arcs next i ys) z
chained_append next k (x ∷ xs) ys = go (in_chain next k)
    (chained_append next (suc k) xs ys ∙ ap (λ (i : ℕ). chained_arcs next (suc k) xs ++ chained_arcs next i ys) (let z : suc k + length xs ≡ k + suc (length xs) = omega arith in z))
  where
    go : (b : Bool) → chained_arcs next (suc k) (xs ++ ys) ≡ chained_arcs next (suc k) xs ++ chained_arcs next (k + suc (length xs)) ys
        → if b (x ∷ chained_arcs next (suc k) (xs ++ ys)) (chained_arcs next (suc k) (xs ++ ys))
        ≡ if b (x ∷ chained_arcs next (suc k) xs) (chained_arcs next (suc k) xs) ++ chained_arcs next (k + suc (length xs)) ys
    go true e = ap {B = List (Arc ℕ)} (λ r. x ∷ r) e
    go false e = e

-- of the first of a list, with one more
chained_more : (next : List ℕ) (xs : List (Arc ℕ)) (j : ℕ) (a : Arc ℕ) → get_elem? xs j ≡ some a
    → chained_arcs next 0 (take (suc j) xs) ≡ chained_arcs next 0 (take j xs) ++ chained_arcs next j (a ∷ [])
chained_more next xs j a e =
    let l : j < length xs = ListFacts.place_bound xs j e in
    let n : 0 + length (take j xs) ≡ j = omega (arith, length-take j xs, l) in
    ap (chained_arcs next 0) (AppendFacts.take_place xs j e) ∙ chained_append next 0 (take j xs) (a ∷ [])
    ∙ ap (λ (i : ℕ). chained_arcs next 0 (take j xs) ++ chained_arcs next i (a ∷ [])) n

-- of one arc
chained_one : (next : List ℕ) (j : ℕ) (a : Arc ℕ) → in_chain next j ≡ true → chained_arcs next j (a ∷ []) ≡ a ∷ []
chained_one next j a e = ap (λ (b : Bool). if b (a ∷ []) []) e

-- an arc that leaves another place, or stands in no chain, leads nowhere
chained_away : (next : List ℕ) (j : ℕ) (a : Arc ℕ) (y : Option ℕ) → (in_chain next j ≡ true → a.source ≡ place_number y → ⊥) → out_by (chained_arcs next j (a ∷ [])) y ≡ []
chained_away next j a y n = go (in_chain next j) refl
  where
    go : (b : Bool) → in_chain next j ≡ b → out_by (if b (a ∷ []) []) y ≡ []
    go true e = out_away a y (n e)
    go false e = out_nil y

-- all arcs, where all stand in chains
chained_whole : (next : List ℕ) (k : ℕ) (xs : List (Arc ℕ)) → ((j : ℕ) → k ≤ j → j < k + length xs → in_chain next j ≡ true) → chained_arcs next k xs ≡ xs
chained_whole next k [] h = refl
chained_whole next k (x ∷ xs) h =
    ap (λ (b : Bool). if b (x ∷ chained_arcs next (suc k) xs) (chained_arcs next (suc k) xs)) (h k (omega arith) (omega arith))
    ∙ ap {B = List (Arc ℕ)} (λ r. x ∷ r) (chained_whole next (suc k) xs (λ j l b. h j (omega arith) (omega arith)))

pub whole_chained : (next : List ℕ) (A : Automaton ℕ) → ((j : ℕ) → j < length A.arcs → in_chain next j ≡ true) → chained_only next A ≡ A
whole_chained next A h =
    let e = chained_whole next 0 A.arcs (λ j l b. h j (omega arith)) in
    λ i. record { tapes = A.tapes; states = A.states; arcs = e i }

-- ---- the steps by the first arcs of a list

module _ (next : List ℕ) (xs : List (Arc ℕ)) (y : Option ℕ) where
  -- the steps by those of the first j arcs that stand in chains
  abbrev out_first : ℕ → List (Content ℕ × ℕ)
  out_first j = out_by (chained_arcs next 0 (take j xs)) y

  -- and by one arc more
  out-more : (j : ℕ) (a : Arc ℕ) → get_elem? xs j ≡ some a → out_first j ++ out_by (chained_arcs next j (a ∷ [])) y ≡ out_first (j + 1)
  out-more j a e =
      let s : suc j ≡ j + 1 = omega arith in
      sym (out_append (chained_arcs next 0 (take j xs)) (chained_arcs next j (a ∷ [])) y) ∙ ap (λ (zs : List (Arc ℕ)). out_by zs y) (sym (chained_more next xs j a e)) ∙ ap out_first s

  -- which stands in a chain
  pub out-next : (j : ℕ) (a : Arc ℕ) → get_elem? xs j ≡ some a → in_chain next j ≡ true
      → out_by (chained_arcs next 0 (take j xs)) y ++ out_by (a ∷ []) y ≡ out_by (chained_arcs next 0 (take (j + 1) xs)) y
  out-next j a e i = ap (λ (zs : List (Arc ℕ)). out_first j ++ out_by zs y) (sym (chained_one next j a i)) ∙ out-more j a e

  -- arcs that lead nowhere are passed over
  pub out_pass : (n j k : ℕ) → j + n ≡ k → k ≤ length xs → ((i : ℕ) (a : Arc ℕ) → j ≤ i → i < k → get_elem? xs i ≡ some a → in_chain next i ≡ true → a.source ≡ place_number y → ⊥)
      → out_by (chained_arcs next 0 (take j xs)) y ≡ out_by (chained_arcs next 0 (take k xs)) y
  out_pass zero j k e b f = let z : j ≡ k = omega arith in ap out_first z
  out_pass (suc n) j k e b f =
      let a = ListFacts.place_exists xs j (omega arith) in
      let z : out_by (chained_arcs next j (a.0 ∷ [])) y ≡ [] = chained_away next j a.0 y (f j a.0 (omega arith) (omega arith) a.1) in
      sym (append-nil (out_first j)) ∙ ap (λ (zs : List (Content ℕ × ℕ)). out_first j ++ zs) (sym z) ∙ out-more j a.0 a.1
      ∙ out_pass n (j + 1) k (omega arith) b (λ i x l. f i x (omega arith))

  -- all of them
  pub out_whole : (j : ℕ) → length xs ≤ j → out_by (chained_arcs next 0 (take j xs)) y ≡ out_by (chained_arcs next 0 xs) y
  out_whole j l = ap (λ (zs : List (Arc ℕ)). out_by (chained_arcs next 0 zs) y) (take_all j xs l)

-- ---- arcs looked at one after the other

module _ (K : List (Content ℕ × ℕ) → List Step) (K-nil : K [] ≡ []) (K-append : (xs zs : List (Content ℕ × ℕ)) → K (xs ++ zs) ≡ K xs ++ K zs)
    (p : Plan) (A B : Automaton ℕ) (c : automata.Vertex) (next : List ℕ) (xs : List (Arc ℕ)) (y : Option ℕ) (h : Head) (v : List ℕ) where
  -- the steps by those of the first j arcs that stand in chains
  abbrev firsts : ℕ → List Step
  firsts j = K (out_by (chained_arcs next 0 (take j xs)) y)

  -- none yet
  pub turn_start : Notes p A B c (K (out_by (chained_arcs next 0 (take 0 xs)) y)) h v h v
  turn_start = notes_same p A B c [] (firsts 0) h h v v (sym (ap K (out_nil y) ∙ K-nil)) (notes_none p A B c h v)

  -- one more was looked at
  pub turn_more : (j : ℕ) (a : Arc ℕ) (g r : Head) (w u : List ℕ) → g.taken ≡ h.taken → Notes p A B c (K (out_by (chained_arcs next 0 (take j xs)) y)) h v g w
      → get_elem? xs j ≡ some a → in_chain next j ≡ true
      → Notes p A B c (K (out_by (a ∷ []) y)) g w r u → Notes p A B c (K (out_by (chained_arcs next 0 (take (j + 1) xs)) y)) h v r u
  turn_more j a g r w u t m e i n =
      let q : firsts j ++ K (out_by (a ∷ []) y) ≡ firsts (j + 1) = sym (K-append (out_by (chained_arcs next 0 (take j xs)) y) (out_by (a ∷ []) y)) ∙ ap K (out-next next xs y j a e i) in
      notes_same p A B c (firsts j ++ K (out_by (a ∷ []) y)) (firsts (j + 1)) h r v u q
      (notes_then p A B c (firsts j) (K (out_by (a ∷ []) y)) h g r v w u t m n)

  -- those that lead nowhere are passed over
  pub turn_pass : (n j k : ℕ) (g : Head) (w : List ℕ) → j + n ≡ k → k ≤ length xs
      → ((i : ℕ) (a : Arc ℕ) → j ≤ i → i < k → get_elem? xs i ≡ some a → in_chain next i ≡ true → a.source ≡ place_number y → ⊥)
      → Notes p A B c (K (out_by (chained_arcs next 0 (take j xs)) y)) h v g w → Notes p A B c (K (out_by (chained_arcs next 0 (take k xs)) y)) h v g w
  turn_pass n j k g w e b f m = notes_same p A B c (firsts j) (firsts k) h g v w (ap K (out_pass next xs y n j k e b f)) m

  -- the states are full before all arcs were looked at
  pub turn_full : (j : ℕ) (r : Head) (u : List ℕ) → r.full ≡ true → Notes p A B c (K (out_by (chained_arcs next 0 (take j xs)) y)) h v r u
      → Notes p A B c (K (out_by (chained_arcs next 0 xs) y)) h v r u
  turn_full j r u f m =
      let rest = chained_arcs next (0 + length (take j xs)) (drop j xs) in
      let q : firsts j ++ K (out_by rest y) ≡ K (out_by (chained_arcs next 0 xs) y) =
      sym (K-append (out_by (chained_arcs next 0 (take j xs)) y) (out_by rest y)) ∙ ap K (sym (out_append (chained_arcs next 0 (take j xs)) rest y))
      ∙ ap (λ (zs : List (Arc ℕ)). K (out_by zs y)) (sym (chained_append next 0 (take j xs) (drop j xs)) ∙ ap (chained_arcs next 0) (take-append-drop j xs)) in
      notes_same p A B c (firsts j ++ K (out_by rest y)) (K (out_by (chained_arcs next 0 xs) y)) h r v u q (notes_full p A B c (firsts j) (K (out_by rest y)) h r v u f m)

  -- all were
  pub turn_all : (j : ℕ) (r : Head) (u : List ℕ) → length xs ≤ j → Notes p A B c (K (out_by (chained_arcs next 0 (take j xs)) y)) h v r u
      → Notes p A B c (K (out_by (chained_arcs next 0 xs) y)) h v r u
  turn_all j r u l m = notes_same p A B c (firsts j) (K (out_by (chained_arcs next 0 xs) y)) h r v u (ap K (out_whole next xs y j l)) m
