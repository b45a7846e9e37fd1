-- How many states are reached depends on where moves lead alone, and not on how many moves lead to the same state.
use Prim.Native.Nat.{ℕ, zero, suc, ◌+◌, ◌*◌, ◌≤◌, ◌<◌}
use mathlib.Core.Path.{◌≡◌, refl, sym, ap, ◌∙◌, subst}
use mathlib.Core.Logic.{inl, inr}
use mathlib.Core.Bool.{Bool, true, false}
use mathlib.Core.Option.{Option, none, some}
use mathlib.Core.List.Memᴰ
use mathlib.Core.List.{List, [], ◌∷◌, ◌++◌, map}
use native.Mathlib.Omega.{arith}
use lib.Dec.{eqb}
use lib.ListN.{length, get_elem?}
use Rattle.automata.specs.Lists.{if, filter, ◌∈◌, here, there, Decides}
use Rattle.automata.specs.OrderedSum.{ℕ_sum}
use Rattle.automata.specs.Automaton.{Automaton, Arc, Content, content}
use Rattle.automata.specs.System.{system, out_at, final_at}
use Rattle.automata.specs.Explore.{successors, reached, Reachable, start, onward}
use Rattle.automata.specs.Product as automata
use Rattle.automata.specs.Product.{same_vertex, both, after_first, after_second, all_both, all_after_first, all_after_second, product_system, product_states}
use Rattle.automata.proofs.ListFacts
use Rattle.automata.proofs.PairwiseFacts
use Rattle.automata.proofs.Explored.{reached_explored}
use Rattle.automata.proofs.ProductStates.{vertices_decided}
use Rattle.automata.specs.Layout.{arc_size}
use Rattle.table.specs.declared.answer.Counts.{Counts}
use Rattle.table.specs.Records.{arc_as, arc_at}
use Rattle.table_adjacency.specs.Chains.{in_chain}
use Rattle.table_adjacency.specs.Distinct.{Covers}
use Rattle.product_search.specs.Reading.{ReadsArcs, chained_arcs, chained_only}
use Rattle.product_search.specs.Searching.{Step}
use Rattle.product_search.specs.Starting.{starts_of}
use Rattle.product_search.proofs.ReadFacts.{at_source, at_target}

-- ---- exploration

module _ {C L : Type 0} (same : C → C → Bool) (decided : Decides same) (out fewer : C → List (L × C)) (starts : List C)
    (within : (c d : C) → d ∈ successors fewer c → d ∈ successors out c) where
  -- what is reached by fewer successors is reached
  reached_on : {c : C} → Reachable fewer starts c → Reachable out starts c
  reached_on (start m) = start m
  reached_on (onward {c} {d} r m) = onward (reached_on r) (within c d m)

  -- so there is room for it where there is room for all
  pub fewer-reached : (cap : ℕ) → length (reached same out cap starts) ≤ cap → length (reached same fewer cap starts) ≤ cap
  fewer-reached cap few =
      let a = reached_explored same decided out starts cap in
      let b = reached_explored same decided fewer starts cap in
      let l = PairwiseFacts.distinct_bound (reached same fewer cap starts) (reached same out cap starts) b.distinct (λ c m. a.complete few c (reached_on (b.accessible c m))) in
      omega (arith, l, few)

-- ---- the moves of a product

-- each step of the first list has one of the second to the same state
abbrev Leads : List (Content ℕ × ℕ) → List (Content ℕ × ℕ) → Type 0
Leads xs ys = (s : Content ℕ × ℕ) → s ∈ xs → (r : Content ℕ × ℕ) × (r ∈ ys) × (r.1 ≡ s.1)

-- the pairs of steps
both_there : (ss rs : List (Content ℕ × ℕ)) (s r : Content ℕ × ℕ) → s ∈ ss → r ∈ rs → ◌∈◌ {A = Step} (both ℕ_sum s r) (all_both ℕ_sum ss rs)
both_there [] rs s r x'' m = elim x'' [ ]
both_there (x ∷ ss) rs s r (here e) m =
    Memᴰ.append_left (all_both ℕ_sum ss rs) (subst (λ (z : Content ℕ × ℕ). ◌∈◌ {A = Step} (both ℕ_sum s r) (map (both ℕ_sum z) rs)) e (ListFacts.map_keeps (both ℕ_sum s) rs m))
both_there (x ∷ ss) rs s r (there k) m = Memᴰ.append_right (map (both ℕ_sum x) rs) (both_there ss rs s r k m)

both-from : (ss rs : List (Content ℕ × ℕ)) (x : Step) → x ∈ all_both ℕ_sum ss rs
    → (s : Content ℕ × ℕ) × (r : Content ℕ × ℕ) × (s ∈ ss) × (r ∈ rs) × (x ≡ both ℕ_sum s r)
both-from [] rs x m = elim m [ ]
both-from (s ∷ ss) rs x m = elim (Memᴰ.append_cases (map (both ℕ_sum s) rs) m) [
  | inl a ↦ (let y = ListFacts.map_members (both ℕ_sum s) rs a in (s, y.0, here refl, y.1, y.2))
  | inr a ↦ (let y = both-from ss rs x a in (y.0, y.1, there y.2, y.3, y.4))
]

module _ (xs xs' ys ys' : List (Content ℕ × ℕ)) (first : Leads xs xs') (second : Leads ys ys') where
  -- a move of the one has one of the other to the same state
  abbrev Also : List Step → List Step → Type 0
  Also us vs = (u : Step) → u ∈ us → (v : Step) × (v ∈ vs) × (v.1 ≡ u.1)

  both_also : Also (all_both ℕ_sum xs ys) (all_both ℕ_sum xs' ys')
  both_also u m =
      let y = both-from xs ys u m in
      let s = first y.0 y.2 in
      let r = second y.1 y.3 in
      (both ℕ_sum s.0 r.0, both_there xs' ys' s.0 r.0 s.1 r.1, (λ i. (some (s.2 i), some (r.2 i))) ∙ sym (ap (λ (z : Step). z.1) y.4))

  first_also : (n : ℕ) (o : Option ℕ) → Also (all_after_first ℕ_sum n o ys) (all_after_first ℕ_sum n o ys')
  first_also n none u m = elim m [ ]
  first_also n (some f) u m =
      let y = ListFacts.map_members (after_first ℕ_sum {C = ℕ} n f) ys m in
      let r = second y.0 y.1 in
      (after_first ℕ_sum n f r.0, ListFacts.map_keeps (after_first ℕ_sum {C = ℕ} n f) ys' r.1, (λ i. (none, some (r.2 i))) ∙ sym (ap (λ (z : Step). z.1) y.2))

  second_also : (n : ℕ) (o : Option ℕ) → Also (all_after_second ℕ_sum n o xs) (all_after_second ℕ_sum n o xs')
  second_also n none u m = elim m [ ]
  second_also n (some f) u m =
      let y = ListFacts.map_members (after_second ℕ_sum {D = ℕ} n f) xs m in
      let r = first y.0 y.1 in
      (after_second ℕ_sum n f r.0, ListFacts.map_keeps (after_second ℕ_sum {D = ℕ} n f) xs' r.1, (λ i. (some (r.2 i), none)) ∙ sym (ap (λ (z : Step). z.1) y.2))

  all_also : (n m : ℕ) (o p : Option ℕ) → Also (all_both ℕ_sum xs ys ++ (all_after_first ℕ_sum n o ys ++ all_after_second ℕ_sum m p xs))
      (all_both ℕ_sum xs' ys' ++ (all_after_first ℕ_sum n o ys' ++ all_after_second ℕ_sum m p xs'))
  all_also n m o p u k = elim (Memᴰ.append_cases (all_both ℕ_sum xs ys) k) [
    | inl a ↦ (let y = both_also u a in (y.0, Memᴰ.append_left _ y.1, y.2))
    | inr a ↦ elim (Memᴰ.append_cases (all_after_first ℕ_sum n o ys) a) [
      | inl b ↦ (let y = first_also n o u b in (y.0, Memᴰ.append_right (all_both ℕ_sum xs' ys') (Memᴰ.append_left _ y.1), y.2))
      | inr b ↦ (let y = second_also m p u b in (y.0, Memᴰ.append_right (all_both ℕ_sum xs' ys') (Memᴰ.append_right (all_after_first ℕ_sum n o ys') y.1), y.2))
    ]
  ]

-- ---- two automata with the same states

-- each arc of the first list has one of the second between the same states
abbrev Joins : List (Arc ℕ) → List (Arc ℕ) → Type 0
Joins xs ys = (a : Arc ℕ) → a ∈ xs → (b : Arc ℕ) × (b ∈ ys) × (b.source ≡ a.source) × (b.target ≡ a.target)

out-leads : (A A' : Automaton ℕ) → Joins A.arcs A'.arcs → (y : Option ℕ) → Leads (out_at ℕ_sum (system A) y) (out_at ℕ_sum (system A') y)
out-leads A A' j none s m = elim m [ ]
out-leads A A' j (some q) s m =
    let f : Arc ℕ → Content ℕ × ℕ = λ a. (content a, a.target) in
    let p : Arc ℕ → Bool = λ a. eqb a.source q in
    let a = ListFacts.map_members f (filter p A.arcs) m in
    let k = ListFacts.filter_members p A.arcs a.1 in
    let b = j a.0 k.0 in
    let t : p b.0 ≡ true = ap (λ (z : ℕ). eqb z q) b.2 ∙ k.1 in
    (f b.0, ListFacts.map_keeps f (filter p A'.arcs) (ListFacts.filter_keeps p A'.arcs b.1 t), b.3 ∙ sym (ap (λ (z : Content ℕ × ℕ). z.1) a.2))

-- the states that moves lead to
ends_also : (us vs : List Step) → ((u : Step) → u ∈ us → (v : Step) × (v ∈ vs) × (v.1 ≡ u.1)) → (d : automata.Vertex) → d ∈ map (λ (u : Step). u.1) us
    → d ∈ map (λ (u : Step). u.1) vs
ends_also us vs h d k =
    let y = ListFacts.map_members (λ (u : Step). u.1) us k in
    let z = h y.0 y.1 in
    subst (λ (x : automata.Vertex). x ∈ map (λ (u : Step). u.1) vs) (z.2 ∙ sym y.2) (ListFacts.map_keeps (λ (u : Step). u.1) vs z.1)

-- moves of the one product lead where moves of the other do, given the same final weights
moves_join : (A B A' B' : Automaton ℕ) → Joins A.arcs A'.arcs → Joins B.arcs B'.arcs → (n m : ℕ) (o p : Option ℕ) (c d : automata.Vertex)
    → d ∈ map (λ (u : Step). u.1) (all_both ℕ_sum (out_at ℕ_sum (system A) c.0) (out_at ℕ_sum (system B) c.1)
    ++ (all_after_first ℕ_sum n o (out_at ℕ_sum (system B) c.1) ++ all_after_second ℕ_sum m p (out_at ℕ_sum (system A) c.0)))
    → d ∈ map (λ (u : Step). u.1) (all_both ℕ_sum (out_at ℕ_sum (system A') c.0) (out_at ℕ_sum (system B') c.1)
    ++ (all_after_first ℕ_sum n o (out_at ℕ_sum (system B') c.1) ++ all_after_second ℕ_sum m p (out_at ℕ_sum (system A') c.0)))
moves_join A B A' B' f g n m o p c d k = ends_also _ _
    (all_also (out_at ℕ_sum (system A) c.0) (out_at ℕ_sum (system A') c.0) (out_at ℕ_sum (system B) c.1) (out_at ℕ_sum (system B') c.1)
    (out-leads A A' f c.0) (out-leads B B' g c.1) n m o p) d k

-- ---- the arcs in chains

chained_from : (next : List ℕ) (k : ℕ) (xs : List (Arc ℕ)) (a : Arc ℕ) → a ∈ chained_arcs next k xs → a ∈ xs
chained_from next k [] a m = elim m [ ]
chained_from next k (x ∷ xs) a m = go (in_chain next k) m (chained_from next (suc k) xs a)
  where
    go : (b : Bool) → a ∈ if b (x ∷ chained_arcs next (suc k) xs) (chained_arcs next (suc k) xs) → (a ∈ chained_arcs next (suc k) xs → a ∈ xs) → a ∈ (x ∷ xs)
    go true (here e) ih = here e
    go true (there h) ih = there (ih h)
    go false h ih = there (ih h)

chained_there : (next : List ℕ) (k : ℕ) (xs : List (Arc ℕ)) (i : ℕ) (a : Arc ℕ) → get_elem? xs i ≡ some a → in_chain next (k + i) ≡ true → a ∈ chained_arcs next k xs
chained_there next k [] i a e t = ListFacts.none_not_some refl e
chained_there next k (x ∷ xs) zero a e t =
    let z : k + 0 ≡ k = omega arith in
    let q : a ≡ x = cc in
    subst (λ (b : Bool). a ∈ if b (x ∷ chained_arcs next (suc k) xs) (chained_arcs next (suc k) xs)) (sym (ap (in_chain next) (sym z) ∙ t)) (here q)
chained_there next k (x ∷ xs) (suc i) a e t =
    let z : k + suc i ≡ suc k + i = omega arith in
    go (in_chain next k) (chained_there next (suc k) xs i a e (ap (in_chain next) (sym z) ∙ t))
  where
    go : (b : Bool) → a ∈ chained_arcs next (suc k) xs → a ∈ if b (x ∷ chained_arcs next (suc k) xs) (chained_arcs next (suc k) xs)
    go true h = there h
    go false h = h

-- they are arcs of the automaton
chained_joins : (next : List ℕ) (A : Automaton ℕ) → Joins (chained_only next A).arcs A.arcs
chained_joins next A a m = (a, chained_from next 0 A.arcs a m, refl, refl)

-- and where they cover it, each of its arcs has one of them between the same states
covered_joins : (counts : Counts) (bytes next : List ℕ) (A : Automaton ℕ) → ReadsArcs counts bytes A → Covers counts.arcs bytes next → Joins A.arcs (chained_only next A).arcs
covered_joins counts bytes next A k c a m =
    let p = ListFacts.place A.arcs m in
    let j = p.0 in
    let b = ListFacts.place_bound A.arcs j p.1 in
    let l : j < counts.arcs = omega (arith, b, k.count) in
    let x = c j l in
    let d : Arc ℕ = arc_as counts.tapes (arc_at (arc_size * x.arc) bytes) in
    let e = k.loaded x.arc x.within in
    let z : 0 + x.arc ≡ x.arc = omega arith in (
      d,
      chained_there next 0 A.arcs x.arc d e (ap (in_chain next) z ∙ x.chained),
      sym (at_source counts bytes A k x.arc d x.within e) ∙ x.source_is ∙ at_source counts bytes A k j a l p.1,
      sym (at_target counts bytes A k x.arc d x.within e) ∙ x.target_is ∙ at_target counts bytes A k j a l p.1,
    )

-- ---- as many states are reached by them

module _ (A B : Automaton ℕ) (n1 n2 : List ℕ) (cap : ℕ) where
  pub fewer_fit : length (product_states ℕ_sum cap A B) ≤ cap → length (product_states ℕ_sum cap (chained_only n1 A) (chained_only n2 B)) ≤ cap
  fewer_fit = fewer-reached same_vertex vertices_decided (product_system ℕ_sum A B).out (product_system ℕ_sum (chained_only n1 A) (chained_only n2 B)).out (starts_of A B)
      (λ c d. moves_join (chained_only n1 A) (chained_only n2 B) A B (chained_joins n1 A) (chained_joins n2 B) A.tapes B.tapes
      (final_at ℕ_sum (system A) c.0) (final_at ℕ_sum (system B) c.1) c d) cap

  pub covered_fit : (first second : Counts) (a1 a2 : List ℕ) → ReadsArcs first a1 A → ReadsArcs second a2 B → Covers first.arcs a1 n1 → Covers second.arcs a2 n2
      → length (product_states ℕ_sum cap (chained_only n1 A) (chained_only n2 B)) ≤ cap → length (product_states ℕ_sum cap A B) ≤ cap
  covered_fit first second a1 a2 k l x y = fewer-reached same_vertex vertices_decided (product_system ℕ_sum (chained_only n1 A) (chained_only n2 B)).out (product_system ℕ_sum A B).out (starts_of A B)
      (λ c d. moves_join A B (chained_only n1 A) (chained_only n2 B) (covered_joins first a1 n1 A k x) (covered_joins second a2 n2 B l y) A.tapes B.tapes
      (final_at ℕ_sum (system A) c.0) (final_at ℕ_sum (system B) c.1) c d) cap
