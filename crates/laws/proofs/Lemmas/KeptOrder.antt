-- Trimming keeps the order: where whatever leads to a kept vertex is kept, the kept vertices stand in the order first
-- reached among themselves.
use mathlib.Core.Path.{◌≡◌, refl, sym, ◌∙◌, ap, subst}
use mathlib.Core.Logic.{inl, inr}
use mathlib.Core.Bool.{Bool, true, false}
use mathlib.Core.Option.{some}
use mathlib.Core.List.{List, [], ◌∷◌, map}
use Prim.Native.Nat.{ℕ, zero, suc, ◌<◌, ◌≤◌}
use native.Mathlib.Omega.{arith}
use lib.ListN.{length, length-map, get_elem?, get_or}
use Rattle.automata.specs.Lists.{if, ◌∈◌, Distinct}
use Rattle.automata.specs.Trim.{at_marks, rank}
use Rattle.automata.proofs.ListFacts
use Rattle.automata.proofs.TestFacts.{compared}
use Rattle.automata.proofs.PairwiseFacts
use Rattle.automata.proofs.Membership.{place_map⁻¹}
use Rattle.automata.proofs.Trimmed.{at_marks_members, at_marks-distinct}
use Rattle.automata.proofs.RankFacts.{rank-marked, rank_monotone, length_at_marks, at_marks-place}
use Rattle.laws.specs.Order.{Key, KeyedGraph, Arrival, start, step, ◌⊏◌, FromBelow, Reaches, FirstReached, Ordered, ClosesGaps}

-- ---- places among those kept

module _ {C : Type 0} where
  -- what stands at a place among those kept stood at a marked place
  pub at_marks-placed : (marks : List Bool) (cs : List C) (r : ℕ) (c : C) → get_elem? (at_marks marks cs) r ≡ some c
      → (k : ℕ) × (get_elem? cs k ≡ some c) × (get_or marks k false ≡ true) × (rank marks k ≡ r)
  unfolding rank
  at_marks-placed [] cs r c e = ListFacts.none_not_some refl e
  at_marks-placed (b ∷ bs) [] r c e = ListFacts.none_not_some refl e
  at_marks-placed (b ∷ bs) (x ∷ cs) r c e = go b r e (λ s h. at_marks-placed bs cs s c h)
    where
      go : (b : Bool) (r : ℕ) → get_elem? (if b (x ∷ at_marks bs cs) (at_marks bs cs)) r ≡ some c
          → ((s : ℕ) → get_elem? (at_marks bs cs) s ≡ some c → (k : ℕ) × (get_elem? cs k ≡ some c) × (get_or bs k false ≡ true) × (rank bs k ≡ s))
          → (k : ℕ) × (get_elem? (x ∷ cs) k ≡ some c) × (get_or (b ∷ bs) k false ≡ true) × (rank (b ∷ bs) k ≡ r)
      go true zero e ih = (zero, e, refl, refl)
      go true (suc r) e ih = let (k, p, q, z) = ih r e in (suc k, p, q, ap suc z)
      go false r e ih = let (k, p, q, z) = ih r e in (suc k, p, q, z)

-- a marked place has fewer marked ones before it than a later place
pub rank-strict : (marks : List Bool) (i j : ℕ) → get_or marks i false ≡ true → i < j → rank marks i < rank marks j
rank-strict marks i j m h = let s = rank-marked marks i m in let t : rank marks (suc i) ≤ rank marks j = rank_monotone marks (suc i) j h in omega arith

-- marked places are known by it
pub rank_injective : (marks : List Bool) (i j : ℕ) → get_or marks i false ≡ true → get_or marks j false ≡ true → rank marks i ≡ rank marks j → i ≡ j
rank_injective marks i j m n e = elim (compared i j) [
  | inl h ↦ (let s = rank-strict marks i j m h in absurd (omega arith))
  | inr (inl h) ↦ h
  | inr (inr h) ↦ (let s = rank-strict marks j i n h in absurd (omega arith))
]

-- ---- the vertices at marked places close the gaps

pub marks_close_gaps : {C : Type 0} (marks : List Bool) (cs : List C) → Distinct cs → ClosesGaps cs (at_marks marks cs)
marks_close_gaps marks cs dis = record {
  some_of = λ c m. let (k, p, _) = at_marks_members marks cs m in ListFacts.placed cs k p;
  in_order = λ i j k l c d ci ck dj dl.
      let (i', p, m, r) = at_marks-placed marks cs k c ck in
      let (j', q, n, s) = at_marks-placed marks cs l d dl in
      let ii : i ≡ i' = PairwiseFacts.distinct-place cs dis i i' ci p in
      let jj : j ≡ j' = PairwiseFacts.distinct-place cs dis j j' dj q in (
        λ h. let t = rank-strict marks i' j' m (omega arith) in omega arith,
        λ h. elim (compared i j) [
          | inl t ↦ t
          | inr (inl t) ↦ (let u : rank marks j' ≤ rank marks i' = rank_monotone marks j' i' (omega arith) in absurd (omega arith))
          | inr (inr t) ↦ (let u : rank marks j' ≤ rank marks i' = rank_monotone marks j' i' (omega arith) in absurd (omega arith))
        ],
      );
}

-- ---- the order of those kept

-- the graph on some of its vertices
abbrev pub within : {C : Type 0} → KeyedGraph C → List C → KeyedGraph C
within G cs = record { Starts = λ s c. G.Starts s c × (c ∈ cs); Steps = λ b e c. G.Steps b e c × (b ∈ cs) × (c ∈ cs) }

module _ {C : Type 0} (G : KeyedGraph C) (cs : List C) (marks : List Bool) (o : Ordered G cs)
    (closed : (b : C) (e : Key) (c : C) → b ∈ cs → G.Steps b e c → c ∈ at_marks marks cs → b ∈ at_marks marks cs) where
  -- what is kept
  abbrev kept : List C
  kept = at_marks marks cs

  -- the arrival by the numbers among those kept
  abbrev renumbered : Arrival → Arrival
  renumbered (start s) = start s
  renumbered (step i e) = step (rank marks i) e

  -- it comes from a marked vertex
  abbrev FromMarked : Arrival → Type 0
  FromMarked (start s) = Unit {0}
  FromMarked (step i e) = get_or marks i false ≡ true

  -- the new numbers keep the order of arrivals ...
  renumbered_increases : (x y : Arrival) → FromMarked x → x ⊏ y → renumbered x ⊏ renumbered y
  renumbered_increases (start s) (start t) m h = h
  renumbered_increases (start s) (step j f) m h = tt
  renumbered_increases (step i e) (start t) m h = elim h [ ]
  renumbered_increases (step i e) (step j f) m (inl h) = inl (rank-strict marks i j m h)
  renumbered_increases (step i e) (step j f) m (inr (p, h)) = inr (ap (rank marks) p, h)

  -- ... and arrivals from below
  renumbered_below : (k : ℕ) (x : Arrival) → FromMarked x → FromBelow k x → FromBelow (rank marks k) (renumbered x)
  renumbered_below k (start s) m b = tt
  renumbered_below k (step i e) m b = rank-strict marks i k m b

  -- the place of a kept vertex is marked
  marked : (i : ℕ) (c : C) → get_elem? cs i ≡ some c → c ∈ kept → get_or marks i false ≡ true
  marked i c e m =
      let (k, p, q) = at_marks_members marks cs m in
      subst (λ (j : ℕ). get_or marks j false ≡ true) (PairwiseFacts.distinct-place cs o.distinct k i p e) q

  -- an arrival at a kept vertex comes from a kept one, and reaches it by the new numbers
  forth : (x : Arrival) (c : C) → c ∈ kept → Reaches G cs x c → FromMarked x × Reaches (within G kept) kept (renumbered x) c
  forth (start s) c m r = (tt, (r, m))
  forth (step i e) c m (b, p, r) =
      let h = closed b e c (ListFacts.placed cs i p) r m in
      let q = marked i b p h in
      (q, (b, at_marks-place marks cs i b p q, (r, h, m)))

  -- and the other way round
  back : (y : Arrival) (c : C) → Reaches (within G kept) kept y c → (x : Arrival) × (renumbered x ≡ y) × Reaches G cs x c × (c ∈ kept)
  back (start s) c (r, m) = (start s, refl, r, m)
  back (step j e) c (b, p, (r, h, m)) =
      let (i, q, _, z) = at_marks-placed marks cs j b p in
      (step i e, ap (λ (n : ℕ). step n e) z, (b, q, r), m)

  -- Those kept stand in the order first reached among themselves.
  pub kept_ordered : Ordered (within G (at_marks marks cs)) (at_marks marks cs)
  kept_ordered = record {
    distinct = at_marks-distinct marks cs o.distinct;
    complete = λ y c r. (back y c r).3;
    arrivals = map renumbered (at_marks marks o.arrivals);
    one_each = length-map (at_marks marks o.arrivals) renumbered ∙ length_at_marks marks o.arrivals ∙ ap (rank marks) o.one_each ∙ sym (length_at_marks marks cs);
    first-reached = first-reached;
    increasing = increasing;
  }
    where
      -- the arrival at a place, and the place before
      before : (r : ℕ) (y : Arrival) → get_elem? (map renumbered (at_marks marks o.arrivals)) r ≡ some y
          → (k : ℕ) × (x : Arrival) × (get_elem? o.arrivals k ≡ some x) × (get_or marks k false ≡ true) × (rank marks k ≡ r) × (renumbered x ≡ y)
      before r y e =
          let (x, p, q) = place_map⁻¹ renumbered (at_marks marks o.arrivals) r e in
          let (k, s, m, z) = at_marks-placed marks o.arrivals r x p in
          (k, x, s, m, z, q)

      -- the vertex there
      vertex : (k : ℕ) (x : Arrival) → get_elem? o.arrivals k ≡ some x → get_or marks k false ≡ true
          → (c : C) × (get_elem? cs k ≡ some c) × (c ∈ kept)
      vertex k x e m =
          let b : k < length o.arrivals = ListFacts.place_bound o.arrivals k e in
          let l = o.one_each in
          let (c, p) = ListFacts.place_exists cs k (omega arith) in
          (c, p, ListFacts.placed kept (rank marks k) (at_marks-place marks cs k c p m))

      from-marked : (k : ℕ) (x : Arrival) → get_elem? o.arrivals k ≡ some x → get_or marks k false ≡ true → FromMarked x
      from-marked k x e m = let (c, p, h) = vertex k x e m in (forth x c h (o.first-reached k x c e p).reaches).0

      first-reached : (r : ℕ) (y : Arrival) (c : C) → get_elem? (map renumbered (at_marks marks o.arrivals)) r ≡ some y → get_elem? kept r ≡ some c
          → FirstReached (within G kept) kept r y c
      first-reached r y c e f =
          let (k, x, p, m, z, q) = before r y e in
          let (k', p', m', z') = at_marks-placed marks cs r c f in
          let kk : k' ≡ k = rank_injective marks k' k m' m (z' ∙ sym z) in
          at k x p m z q (subst (λ (i : ℕ). get_elem? cs i ≡ some c) kk p')
        where
          at : (k : ℕ) (x : Arrival) → get_elem? o.arrivals k ≡ some x → get_or marks k false ≡ true → rank marks k ≡ r → renumbered x ≡ y
              → get_elem? cs k ≡ some c → FirstReached (within G kept) kept r y c
          at k x p m z q g =
              let h = o.first-reached k x c p g in
              let i : c ∈ kept = ListFacts.placed kept r f in
              let (mx, rx) = forth x c i h.reaches in
              record {
                reaches = subst (λ (w : Arrival). Reaches (within G kept) kept w c) q rx;
                first = λ v s.
                    let (u, uv, t, _) = back v c s in
                    elim (h.first u t) [
                      | inl a ↦ inl (sym q ∙ ap renumbered a ∙ uv)
                      | inr a ↦ inr (subst (λ (w : Arrival). w ⊏ v) q (subst (λ (w : Arrival). renumbered x ⊏ w) uv (renumbered_increases x u mx a)))
                    ];
                from_below = subst (FromBelow r) q (subst (λ (n : ℕ). FromBelow n (renumbered x)) z (renumbered_below k x mx h.from_below));
              }

      increasing : (r s : ℕ) (y z : Arrival) → get_elem? (map renumbered (at_marks marks o.arrivals)) r ≡ some y
          → get_elem? (map renumbered (at_marks marks o.arrivals)) s ≡ some z → r < s → y ⊏ z
      increasing r s y z e f h =
          let (k, x, p, m, a, q) = before r y e in
          let (l, w, p', m', a', q') = before s z f in
          let kl : k < l = elim (compared k l) [
            | inl t ↦ t
            | inr (inl t) ↦ (let u : rank marks l ≤ rank marks k = rank_monotone marks l k (omega arith) in absurd (omega arith))
            | inr (inr t) ↦ (let u : rank marks l ≤ rank marks k = rank_monotone marks l k (omega arith) in absurd (omega arith))
          ] in
          subst (λ (v : Arrival). v ⊏ z) q (subst (λ (v : Arrival). renumbered x ⊏ v) q' (renumbered_increases x w (from-marked k x p m) (o.increasing k l x w p p' kl)))
