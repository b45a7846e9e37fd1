-- How much an exploration finds: more vertices than the cap exactly where more can be reached, and as many edges as
-- there are steps between them.
use mathlib.Core.Path.{◌≡◌, refl, sym, ◌∙◌, ap, subst}
use mathlib.Core.Bool.{Bool, true, false}
use mathlib.Core.Option.{some}
use mathlib.Core.List.{List, [], ◌∷◌, map}
use Prim.Native.Nat.{ℕ, zero, suc, ◌+◌, ◌≤◌, ◌<◌}
use native.Mathlib.Omega.{arith}
use lib.ListN.{length, length-append, length-map}
use Rattle.automata.specs.Lists.{here, there, ◌∈◌, Distinct, Decides, concat, numbered, map_maybe, guard, cons_maybe, total}
use Rattle.automata.specs.Explore.{Reachable, member, index_of, edge_to, edges, reached}
use Rattle.automata.specs.Projection.{range}
use Rattle.laws.specs.Refused.{MoreThan, Step}
use Rattle.automata.proofs.ListFacts
use Rattle.automata.proofs.TestFacts
use Rattle.automata.proofs.PairwiseFacts.{distinct_bound, pairwise_concat}
use Rattle.laws.proofs.Lemmas.Ranges.{range_members, members_range, length_range}
use Rattle.automata.proofs.Explored.{member_complete, reached_explored, reached_closed}

module _ {C L : Type 0} (out : C → List (L × C)) where
  -- the steps of a vertex by their places
  abbrev places : C → ℕ → ℕ → List (C × ℕ)
  places c k n = map (λ i. (c, i)) (range k n)

  places_distinct : (c : C) (k n : ℕ) → Distinct (places c k n)
  places_distinct c k zero = tt
  places_distinct c k (suc n) = (
    λ y m e.
        let (i, j, x) = ListFacts.map_members (λ i. (c, i)) (range (suc k) n) m in
        let (a, _) = range_members (suc k) n i j in
        let z : k ≡ i = ap (λ p. p.1) (e ∙ x) in
        omega arith,
    places_distinct c (suc k) n,
  )

  -- all steps of the vertices cs
  abbrev all_steps : List C → List (C × ℕ)
  all_steps cs = concat (map (λ c. places c 0 (length (out c))) cs)

  all_steps_distinct : (cs : List C) → Distinct cs → Distinct (all_steps cs)
  all_steps_distinct cs d = pairwise_concat (λ x y. (x ≡ y) → ⊥) (λ x y. (x ≡ y) → ⊥) (λ c. places c 0 (length (out c)))
      (λ c. places_distinct c 0 (length (out c)))
      (λ a b x y m k f e.
      let (_, _, p) = ListFacts.map_members (λ i. (a, i)) (range 0 (length (out a))) m in
      let (_, _, q) = ListFacts.map_members (λ i. (b, i)) (range 0 (length (out b))) k in
      f (ap (λ z. z.0) (sym p ∙ e ∙ q)))
      cs d

  all_steps_members : (cs : List C) (x : C × ℕ) → x ∈ all_steps cs → (x.0 ∈ cs) × (x.1 < length (out x.0))
  all_steps_members cs x h =
      let (xs, m, k) = ListFacts.concat_members (map (λ c. places c 0 (length (out c))) cs) h in
      let (c, mc, e) = ListFacts.map_members (λ c. places c 0 (length (out c))) cs m in
      let (i, j, q) = ListFacts.map_members (λ i. (c, i)) (range 0 (length (out c))) (subst (λ xs. x ∈ xs) e k) in
      let (_, b) = range_members 0 (length (out c)) i j in
      let first : c ≡ x.0 = sym (ap (λ z. z.0) q) in
      let second : i ≡ x.1 = sym (ap (λ z. z.1) q) in
      let l : i < length (out c) = omega arith in
      (subst (λ c. c ∈ cs) first mc, subst (λ c. x.1 < length (out c)) first (subst (λ i. i < length (out c)) second l))

  members_all_steps : (cs : List C) (c : C) (i : ℕ) → c ∈ cs → i < length (out c) → (c, i) ∈ all_steps cs
  members_all_steps cs c i m h =
      let e : 0 + i ≡ i = omega arith in
      ListFacts.concat_keeps (map (λ c. places c 0 (length (out c))) cs) (ListFacts.map_keeps (λ c. places c 0 (length (out c))) cs m)
      (ListFacts.map_keeps (λ i. (c, i)) (range 0 (length (out c))) (subst (λ j. j ∈ range 0 (length (out c))) e (members_range 0 (length (out c)) i h)))

  length_all_steps : (cs : List C) → length (all_steps cs) ≡ total (λ c. length (out c)) cs
  length_all_steps [] = refl
  length_all_steps (c ∷ cs) =
      length-append (places c 0 (length (out c))) (all_steps cs)
      ∙ (λ i. (length-map {B = C × ℕ} (range 0 (length (out c))) (λ i. (c, i)) ∙ length_range 0 (length (out c))) i + length_all_steps cs i)

  -- ---- edges

  module _ (same : C → C → Bool) (ds : List C) where
    length_from : (k : ℕ) (ss : List (L × C)) → ((s : L × C) → s ∈ ss → member same s.1 ds ≡ true) → length (map_maybe (edge_to same ds k) ss) ≡ length ss
    length_from k [] h = refl
    length_from k (s ∷ ss) h = go (member same s.1 ds) (h s (here refl)) (length_from k ss (λ s m. h s (there m)))
      where
        go : (b : Bool) → b ≡ true → length (map_maybe (edge_to same ds k) ss) ≡ length ss
            → length (cons_maybe (guard b (some (record { from = k; label = s.0; to = index_of same s.1 ds }))) (map_maybe (edge_to same ds k) ss)) ≡ suc (length ss)
        go true e r = ap suc r
        go false e r = TestFacts.false_not_true refl e

    length_all : (k : ℕ) (cs : List C) → ((c : C) (s : L × C) → c ∈ cs → s ∈ out c → member same s.1 ds ≡ true)
        → length (concat (map (λ v. map_maybe (edge_to same ds v.0) (out v.1)) (numbered k cs))) ≡ total (λ c. length (out c)) cs
    length_all k [] h = refl
    length_all k (c ∷ cs) h =
        length-append (map_maybe (edge_to same ds k) (out c)) (concat (map (λ v. map_maybe (edge_to same ds v.0) (out v.1)) (numbered (suc k) cs)))
        ∙ (λ i. length_from k (out c) (λ s m. h c s (here refl) m) i + length_all (suc k) cs (λ c s m. h c s (there m)) i)

-- ---- what is found

module _ {C L : Type 0} (same : C → C → Bool) (decided : Decides same) (out : C → List (L × C)) (from : List C) (cap : ℕ) where
  abbrev found : List C
  found = reached same out cap from

  -- more than the cap is found only where more can be reached
  pub more_found : cap < length found → MoreThan cap (Reachable out from)
  more_found h = let r = reached_explored same decided out from cap in (found, r.distinct, r.accessible, h)

  -- and where it is not, no more can be reached
  pub all_found : length found ≤ cap → ¬ MoreThan cap (Reachable out from)
  all_found h (xs, d, p, l) =
      let r = reached_explored same decided out from cap in
      let b = distinct_bound xs found d (λ x m. r.complete h x (p x m)) in
      omega arith

  -- then what is found is what can be reached
  pub found_is : length found ≤ cap → (c : C) → Reachable out from c → c ∈ found
  found_is h = (reached_explored same decided out from cap).complete h

  pub is_found : (c : C) → c ∈ found → Reachable out from c
  is_found = (reached_explored same decided out from cap).accessible

  count : length found ≤ cap → length (edges same out found) ≡ length (all_steps out found)
  unfolding edges
  count h = length_all out same found 0 found
      (λ c s m k. member_complete same decided s.1 found (reached_closed same decided out from cap h c s.1 m (ListFacts.map_keeps (λ (s : L × C). s.1) (out c) k)))
      ∙ sym (length_all_steps out found)

  -- and the edges are its steps
  pub more_edges : length found ≤ cap → (k : ℕ) → k < length (edges same out found) → MoreThan k (Step out from)
  more_edges h k l = (
    all_steps out found,
    all_steps_distinct out found (reached_explored same decided out from cap).distinct,
    λ x m. let (i, b) = all_steps_members out found x m in (is_found x.0 i, b),
    subst (λ n. k < n) (count h) l,
  )

  pub all_edges : length found ≤ cap → (k : ℕ) → length (edges same out found) ≤ k → ¬ MoreThan k (Step out from)
  all_edges h k l (xs, d, p, b) =
      let c = count h in
      let m = distinct_bound xs (all_steps out found) d (λ x i. let (r, s) = p x i in members_all_steps out found x.0 x.1 (found_is h x.0 r) s) in
      omega arith
