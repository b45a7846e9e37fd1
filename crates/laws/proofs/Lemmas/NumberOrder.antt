-- The order of vertices as an order of their numbers; and the order of edges.
use mathlib.Core.Path.{◌≡◌, sym, ◌∙◌, ap, subst}
use mathlib.Core.Logic.{inl, inr}
use mathlib.Core.Bool.{Bool}
use mathlib.Core.Option.{some, some-injective}
use mathlib.Core.List.{List}
use Prim.Native.Nat.{ℕ, zero, ◌+◌, ◌<◌}
use native.Mathlib.Omega.{arith}
use lib.ListN.{length, get_elem?}
use Rattle.automata.specs.Lists.{◌∈◌, Pairwise, numbered, map_maybe}
use Rattle.automata.specs.Explore.{Edge, member, index_of, edge_to, edges}
use Rattle.automata.specs.Projection.{range}
use Rattle.automata.proofs.ListFacts
use Rattle.automata.proofs.PairwiseFacts
use Rattle.laws.proofs.Lemmas.Ranges.{length_range, range_at, range-placed, range-distinct}
use Rattle.laws.specs.Order.{Key, ◌≺◌, KeyedGraph, Arrival, start, step, ◌⊏◌, Reaches, FirstReached, Ordered}

-- ---- the order of numbers

module _ {C : Type 0} (G : KeyedGraph C) (cs : List C) where
  -- the graph by the numbers of its vertices
  abbrev pub by_number : KeyedGraph ℕ
  by_number = record {
    Starts = λ s k. (c : C) × (get_elem? cs k ≡ some c) × G.Starts s c;
    Steps = λ j e k. (b : C) × (c : C) × (get_elem? cs j ≡ some b) × (get_elem? cs k ≡ some c) × G.Steps b e c;
  }

  pub numbers_ordered : Ordered G cs → Ordered by_number (range zero (length cs))
  numbers_ordered o = record {
    distinct = range-distinct zero (length cs);
    complete = complete;
    arrivals = o.arrivals;
    one_each = o.one_each ∙ sym (length_range zero (length cs));
    first-reached = first-reached;
    increasing = o.increasing;
  }
    where
      ns : List ℕ
      ns = range zero (length cs)

      number_at : (k : ℕ) (c : C) → get_elem? cs k ≡ some c → get_elem? ns k ≡ some k
      number_at k c e = let z : zero + k ≡ k = omega arith in range_at zero (length cs) k (ListFacts.place_bound cs k e) ∙ ap some z

      complete : (x : Arrival) (k : ℕ) → Reaches by_number ns x k → k ∈ ns
      complete (start s) k (c, p, r) = ListFacts.placed ns k (number_at k c p)
      complete (step i e) k (j, q, (b, c, u, p, r)) = ListFacts.placed ns k (number_at k c p)

      to : (x : Arrival) (k : ℕ) (c : C) → get_elem? cs k ≡ some c → Reaches G cs x c → Reaches by_number ns x k
      to (start s) k c p r = (c, p, r)
      to (step i e) k c p (b, q, r) = (i, number_at i b q, (b, c, q, p, r))

      from : (x : Arrival) (k : ℕ) (c : C) → get_elem? cs k ≡ some c → Reaches by_number ns x k → Reaches G cs x c
      from (start s) k c p (d, q, r) = subst (G.Starts s) (some-injective d c (sym q ∙ p)) r
      from (step i e) k c p (j, h, (b, d, u, q, r)) =
          let (z, _) = range-placed zero (length cs) i j h in
          let ij : j ≡ i = omega arith in
          (b, subst (λ (n : ℕ). get_elem? cs n ≡ some b) ij u, subst (G.Steps b e) (some-injective d c (sym q ∙ p)) r)

      first-reached : (k : ℕ) (x : Arrival) (m : ℕ) → get_elem? o.arrivals k ≡ some x → get_elem? ns k ≡ some m → FirstReached by_number ns k x m
      first-reached k x m e f =
          let (z, h) = range-placed zero (length cs) k m f in
          let (c, p) = ListFacts.place_exists cs k h in
          let r = o.first-reached k x c e p in
          let km : k ≡ m = omega arith in
          subst (λ (n : ℕ). FirstReached by_number ns k x n) km
          (record { reaches = to x k c p r.reaches; first = λ y s. r.first y (from y k c p s); from_below = r.from_below })

-- ---- the order of edges

module _ {C L : Type 0} (same : C → C → Bool) (out : C → List (L × C)) (cs : List C) (key : L → Key)
    (increase : (c : C) → Pairwise (λ s t. key s.0 ≺ key t.0) (out c)) where
  -- by source, then as the labels of its successors
  pub edges_increase : Pairwise (λ (x y : Edge L). step x.from (key x.label) ⊏ step y.from (key y.label)) (edges same out cs)
  unfolding edges
  edges_increase =
      PairwiseFacts.pairwise_concat (λ a b. a.0 < b.0) S edges_from each across (numbered zero cs) (PairwiseFacts.pairwise_numbered zero cs)
    where
      edges_from : ℕ × C → List (Edge L)
      edges_from v = map_maybe (edge_to same cs v.0) (out v.1)

      S : Edge L → Edge L → Type 0
      S x y = step x.from (key x.label) ⊏ step y.from (key y.label)

      made : (k : ℕ) (s : L × C) (x : Edge L) → edge_to same cs k s ≡ some x → (x.from ≡ k) × (x.label ≡ s.0)
      made k s x e =
          let g = ListFacts.guard_some (member same s.1 cs) (some (record { from = k; label = s.0; to = index_of same s.1 cs })) e in
          let q : x ≡ record { from = k; label = s.0; to = index_of same s.1 cs } = cc in
          (ap (λ (z : Edge L). z.from) q, ap (λ (z : Edge L). z.label) q)

      each : (v : ℕ × C) → Pairwise S (edges_from v)
      each v = PairwiseFacts.pairwise_map_maybe (λ s t. key s.0 ≺ key t.0) S (edge_to same cs v.0)
          (λ s t x y p q r.
          let (a, b) = made v.0 s x p in
          let (c, d) = made v.0 t y q in
          inr (a ∙ sym c, subst (λ (l : L). key x.label ≺ key l) (sym d) (subst (λ (l : L). key l ≺ key t.0) (sym b) r)))
          (out v.1) (increase v.1)

      across : (a b : ℕ × C) (x y : Edge L) → x ∈ edges_from a → y ∈ edges_from b → a.0 < b.0 → S x y
      across a b x y p q l =
          let s = ListFacts.map_maybe_members (edge_to same cs a.0) (out a.1) p in
          let t = ListFacts.map_maybe_members (edge_to same cs b.0) (out b.1) q in
          let u : x.from ≡ a.0 = (made a.0 s.0 x s.2).0 in
          let v : y.from ≡ b.0 = (made b.0 t.0 y t.2).0 in
          inl (omega arith)
