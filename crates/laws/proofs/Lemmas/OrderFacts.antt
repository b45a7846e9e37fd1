-- The order in which vertices are first reached: it is kept by one numbering alone, and exploration keeps it.
use mathlib.Core.Path.{◌≡◌, refl, sym, ◌∙◌, ap, subst}
use mathlib.Core.Logic.{◌⊎◌, inl, inr}
use mathlib.Core.Bool.{Bool, true, false}
use mathlib.Core.Option.{Option, none, some, some-injective}
use mathlib.Core.List.Memᴰ
use mathlib.Core.List.{List, [], ◌∷◌, ◌++◌, map, append_assoc, append-nil}
use Prim.Native.Nat.{ℕ, zero, suc, ◌+◌, ◌<◌, ◌≤◌}
use native.Mathlib.Omega.{arith}
use lib.ListN.{length, get_elem?, length-append}
use Rattle.automata.specs.Lists.{if, ◌∈◌, here, there, Distinct, Decides, Pairwise}
use Rattle.automata.specs.Explore.{member, insert, insert_all, successors, explore, reached}
use Rattle.automata.proofs.ListFacts
use Rattle.automata.proofs.TestFacts.{compared, false_not_true}
use Rattle.automata.proofs.PairwiseFacts
use Rattle.automata.proofs.Membership.{place-cases}
use Rattle.automata.proofs.Explored.{member_sound, member_complete, insert_all-place, explore-cases}
use Rattle.laws.proofs.Lemmas.Sorted.{same_places, only-place, map_map, pairwise_map}
use Rattle.laws.specs.Order.{Key, ◌≺◌, KeyedGraph, Arrival, start, step, ◌⊏◌, FromBelow, Reaches, FirstReached, Ordered}

-- ---- the order of keys and of arrivals is strict

-- no key is before itself
pub ≺_irreflexive : (s : Key) → s ≺ s → ⊥
≺_irreflexive [] h = h
≺_irreflexive (n ∷ s) (inl h) = omega arith
≺_irreflexive (n ∷ s) (inr (e, h)) = ≺_irreflexive s h

-- before what is before
pub ≺_transitive : (s t u : Key) → s ≺ t → t ≺ u → s ≺ u
≺_transitive [] [] u h k = elim h [ ]
≺_transitive [] (n ∷ t) [] h k = elim k [ ]
≺_transitive (m ∷ s) [] u h k = elim h [ ]
≺_transitive (m ∷ s) (n ∷ t) [] h k = elim k [ ]
≺_transitive [] (n ∷ t) (o ∷ u) h k = tt
≺_transitive (m ∷ s) (n ∷ t) (o ∷ u) (inl h) (inl k) = inl (omega arith)
≺_transitive (m ∷ s) (n ∷ t) (o ∷ u) (inl h) (inr (f, k)) = inl (omega arith)
≺_transitive (m ∷ s) (n ∷ t) (o ∷ u) (inr (e, h)) (inl k) = inl (omega arith)
≺_transitive (m ∷ s) (n ∷ t) (o ∷ u) (inr (e, h)) (inr (f, k)) = inr (e ∙ f, ≺_transitive s t u h k)

-- the same of arrivals
pub ⊏_irreflexive : (x : Arrival) → x ⊏ x → ⊥
⊏_irreflexive (start s) h = ≺_irreflexive s h
⊏_irreflexive (step i e) (inl h) = omega arith
⊏_irreflexive (step i e) (inr (p, h)) = ≺_irreflexive e h

pub ⊏_transitive : (x y z : Arrival) → x ⊏ y → y ⊏ z → x ⊏ z
⊏_transitive (start s) (start t) (start u) h k = ≺_transitive s t u h k
⊏_transitive (start s) (start t) (step i e) h k = tt
⊏_transitive (start s) (step i e) (start u) h k = elim k [ ]
⊏_transitive (step i e) (start t) z h k = elim h [ ]
⊏_transitive (step i e) (step j f) (start u) h k = elim k [ ]
⊏_transitive (start s) (step i e) (step j f) h k = tt
⊏_transitive (step i e) (step j f) (step l g) (inl h) (inl k) = inl (omega arith)
⊏_transitive (step i e) (step j f) (step l g) (inl h) (inr (q, k)) = inl (omega arith)
⊏_transitive (step i e) (step j f) (step l g) (inr (p, h)) (inl k) = inl (omega arith)
⊏_transitive (step i e) (step j f) (step l g) (inr (p, h)) (inr (q, k)) = inr (p ∙ q, ≺_transitive e f g h k)

-- at most, then before
≼_then : (x y z : Arrival) → x ⊏ y → (y ≡ z) ⊎ (y ⊏ z) → x ⊏ z
≼_then x y z h (inl e) = subst (λ (w : Arrival). x ⊏ w) e h
≼_then x y z h (inr k) = ⊏_transitive x y z h k

-- below a higher number
pub from_below_up : (m n : ℕ) (x : Arrival) → m ≤ n → FromBelow m x → FromBelow n x
from_below_up m n (start s) h b = tt
from_below_up m n (step i e) h b = omega arith

-- ---- one numbering alone

module _ {C : Type 0} (G : KeyedGraph C) where
  -- the first arrival at a vertex
  module _ (cs : List C) (o : Ordered G cs) (k : ℕ) (c : C) (e : get_elem? cs k ≡ some c) where
    at_arrival : (x : Arrival) × (get_elem? o.arrivals k ≡ some x)
    at_arrival = let b : k < length cs = ListFacts.place_bound cs k e in
        let l = o.one_each in ListFacts.place_exists o.arrivals k (omega arith)

    -- the first arrival at a vertex
    pub arrival : Arrival
    arrival = at_arrival.0

    pub arrived : FirstReached G cs k arrival c
    unfolding arrival
    arrived = o.first-reached k at_arrival.0 c at_arrival.1 e

  pub arrivals_increase : (cs : List C) (o : Ordered G cs) (k l : ℕ) (c d : C) (p : get_elem? cs k ≡ some c) (q : get_elem? cs l ≡ some d)
      → k < l → arrival cs o k c p ⊏ arrival cs o l d q
  unfolding arrival
  arrivals_increase cs o k l c d p q h =
      o.increasing k l _ _ (at_arrival cs o k c p).1 (at_arrival cs o l d q).1 h

  -- what is reached from numbers below k, where two lists agree
  carried : (cs ds : List C) (k : ℕ) → ((j : ℕ) → j < k → get_elem? cs j ≡ get_elem? ds j)
      → (x : Arrival) (c : C) → FromBelow k x → Reaches G cs x c → Reaches G ds x c
  carried cs ds k agree (start s) c b r = r
  carried cs ds k agree (step i e) c b (d, p, q) = (d, sym (agree i b) ∙ p, q)

  module _ (cs ds : List C) (o : Ordered G cs) (p : Ordered G ds) (k : ℕ) (agree : (j : ℕ) → j < k → get_elem? cs j ≡ get_elem? ds j) where
    same_next : (c : C) → get_elem? cs k ≡ some c → get_elem? ds k ≡ some c
    same_next c e = place (ListFacts.place ds (p.complete x c reaches))
      where
        x : Arrival
        x = arrival cs o k c e

        f : FirstReached G cs k x c
        f = arrived cs o k c e

        reaches : Reaches G ds x c
        reaches = carried cs ds k agree x c f.from_below f.reaches

        place : (m : ℕ) × (get_elem? ds m ≡ some c) → get_elem? ds k ≡ some c
        place (m, em) = elim (compared m k) [
          | inl h ↦ (let z : m ≡ k = PairwiseFacts.distinct-place cs o.distinct m k (agree m h ∙ em) e in absurd (omega arith))
          | inr (inl z) ↦ subst (λ (n : ℕ). get_elem? ds n ≡ some c) z em
          | inr (inr h) ↦ later h
        ]
          where
            later : k < m → get_elem? ds k ≡ some c
            later h = other (ListFacts.place_exists ds k (let b : m < length ds = ListFacts.place_bound ds m em in omega arith))
              where
                other : (d : C) × (get_elem? ds k ≡ some d) → get_elem? ds k ≡ some c
                other (d, ed) = found (ListFacts.place cs (o.complete y d back))
                  where
                    y : Arrival
                    y = arrival ds p k d ed

                    g : FirstReached G ds k y d
                    g = arrived ds p k d ed

                    back : Reaches G cs y d
                    back = carried ds cs k (λ j l. sym (agree j l)) y d g.from_below g.reaches

                    found : (n : ℕ) × (get_elem? cs n ≡ some d) → get_elem? ds k ≡ some c
                    found (n, en) = elim (compared n k) [
                      | inl l ↦ (let z : n ≡ k = PairwiseFacts.distinct-place ds p.distinct n k (sym (agree n l) ∙ en) ed in absurd (omega arith))
                      | inr (inl z) ↦ ed ∙ sym (subst (λ (i : ℕ). get_elem? cs i ≡ some d) z en) ∙ e
                      | inr (inr l) ↦ absurd (⊏_irreflexive x (⊏_transitive x y x
                          (≼_then x _ y (arrivals_increase cs o k n c d e en l) ((arrived cs o n d en).first y back))
                          (≼_then y _ x (arrivals_increase ds p k m d c ed em h) ((arrived ds p m c em).first x reaches))))
                    ]

  -- below every number two ordered numberings are the same
  agree_below : (cs ds : List C) → Ordered G cs → Ordered G ds → (k j : ℕ) → j < k → get_elem? cs j ≡ get_elem? ds j
  agree_below cs ds o p zero j h = absurd (omega arith)
  agree_below cs ds o p (suc k) j h = elim (compared j k) [
    | inl l ↦ agree_below cs ds o p k j l
    | inr (inl z) ↦ subst (λ (n : ℕ). get_elem? cs n ≡ get_elem? ds n) (sym z) (at_k (agree_below cs ds o p k) (get_elem? cs k) (get_elem? ds k) refl refl)
    | inr (inr l) ↦ absurd (omega arith)
  ]
    where
      at_k : ((j : ℕ) → j < k → get_elem? cs j ≡ get_elem? ds j) → (u v : Option C) → get_elem? cs k ≡ u → get_elem? ds k ≡ v
          → get_elem? cs k ≡ get_elem? ds k
      at_k ih (some c) v e f = e ∙ sym (same_next cs ds o p k ih c e)
      at_k ih none (some d) e f = same_next ds cs p o k (λ i l. sym (ih i l)) d f ∙ sym f
      at_k ih none none e f = e ∙ sym f

  -- The order leaves one numbering alone.
  pub ordered_unique : (cs ds : List C) → Ordered G cs → Ordered G ds → cs ≡ ds
  ordered_unique cs ds o p = same_places cs ds (λ k. agree_below cs ds o p (suc k) k (omega arith))

-- ---- other words for the starts and the steps

module _ {C : Type 0} (G H : KeyedGraph C) (cs : List C)
    (starts : (s : Key) (c : C) → c ∈ cs → G.Starts s c → H.Starts s c) (starts⁻¹ : (s : Key) (c : C) → H.Starts s c → G.Starts s c)
    (steps : (b : C) (e : Key) (c : C) → b ∈ cs → c ∈ cs → G.Steps b e c → H.Steps b e c)
    (steps⁻¹ : (b : C) (e : Key) (c : C) → b ∈ cs → H.Steps b e c → G.Steps b e c) where
  -- an arrival in one graph is one in the other
  to : (x : Arrival) (c : C) → c ∈ cs → Reaches G cs x c → Reaches H cs x c
  to (start s) c m r = starts s c m r
  to (step i e) c m (b, p, r) = (b, p, steps b e c (ListFacts.placed cs i p) m r)

  -- and the other way round
  from : (x : Arrival) (c : C) → Reaches H cs x c → Reaches G cs x c
  from (start s) c r = starts⁻¹ s c r
  from (step i e) c (b, p, r) = (b, p, steps⁻¹ b e c (ListFacts.placed cs i p) r)

  -- the order is that of any graph with the same starts, and the same steps between the vertices
  pub ordered_iff : Ordered G cs → Ordered H cs
  ordered_iff o = record {
    distinct = o.distinct;
    complete = λ x c r. o.complete x c (from x c r);
    arrivals = o.arrivals;
    one_each = o.one_each;
    first-reached = λ k x c e f.
        let r = o.first-reached k x c e f in
        record { reaches = to x c (ListFacts.placed cs k f) r.reaches; first = λ y h. r.first y (from y c h); from_below = r.from_below };
    increasing = o.increasing;
  }

-- ---- exploration keeps the order

module _ {C : Type 0} (same : C → C → Bool) (decided : Decides same) where
  -- What holds when the arrivals seen so far have been entered in turn: xs are the first ones, by number.
  record Noted (seen : List (Arrival × C)) (cs : List C) (xs : List Arrival) : Type 0 where
    distinct : Distinct cs
    inside : (x : Arrival) (c : C) → (x, c) ∈ seen → c ∈ cs
    one_each : length xs ≡ length cs
    first : (k : ℕ) (x : Arrival) (c : C) → get_elem? xs k ≡ some x → get_elem? cs k ≡ some c
        → ((x, c) ∈ seen) × ((y : Arrival) → (y, c) ∈ seen → (x ≡ y) ⊎ (x ⊏ y)) × FromBelow k x
    increasing : Pairwise ◌⊏◌ xs

  -- one arrival more, after all others
  module _ (seen : List (Arrival × C)) (cs : List C) (xs : List Arrival) (n : Noted seen cs xs) (x : Arrival) (c : C)
      (after : (y : Arrival) (d : C) → (y, d) ∈ seen → y ⊏ x) (below : FromBelow (length cs) x) where
    now : List (Arrival × C)
    now = seen ++ ((x, c) ∷ [])

    last : (y : Arrival) (d : C) → (y, d) ∈ now → ((y, d) ∈ seen) ⊎ ((y ≡ x) × (d ≡ c))
    unfolding now
    last y d m = elim (Memᴰ.append_cases seen m) [ inl l ↦ inl l | inr r ↦ inr (only r) ]
      where
        only : ◌∈◌ {A = Arrival × C} (y, d) ((x, c) ∷ []) → (y ≡ x) × (d ≡ c)
        only (there x5) = elim x5 [ ]
        only (here e) = (ap (λ (z : Arrival × C). z.0) e, ap (λ (z : Arrival × C). z.1) e)

    -- what held of a vertex before still does
    still : (k : ℕ) (y : Arrival) (d : C) → get_elem? xs k ≡ some y → get_elem? cs k ≡ some d
        → ((y, d) ∈ now) × ((z : Arrival) → (z, d) ∈ now → (y ≡ z) ⊎ (y ⊏ z)) × FromBelow k y
    unfolding now
    still k y d e f =
        let (m, least, b) = n.first k y d e f in (
          Memᴰ.append_left ((x, c) ∷ []) m,
          (λ z h. elim (last z d h) [
            | inl l ↦ least z l
            | inr (p, q) ↦ inr (subst (λ (w : Arrival). y ⊏ w) (sym p) (after y d m))
          ]),
          b,
        )

    one_more : (xs' : List Arrival) × Noted now (insert same cs c) xs'
    unfolding now
    one_more = go (member same c cs) refl
      where
        go : (b : Bool) → member same c cs ≡ b → (xs' : List Arrival) × Noted now (if b cs (cs ++ (c ∷ []))) xs'
        go true e = (
          xs,
          record {
            distinct = n.distinct;
            inside = λ y d m. elim (last y d m) [ inl l ↦ n.inside y d l | inr (p, q) ↦ subst (λ (z : C). z ∈ cs) (sym q) (member_sound same decided c cs e) ];
            one_each = n.one_each;
            first = still;
            increasing = n.increasing;
          },
        )
        go false e = (
          xs ++ (x ∷ []),
          record {
            distinct = PairwiseFacts.pairwise_append (λ u v. (u ≡ v) → ⊥) cs (c ∷ []) n.distinct ((λ y h. elim h [ ]), tt) apart;
            inside = λ y d m. elim (last y d m) [ inl l ↦ Memᴰ.append_left (c ∷ []) (n.inside y d l) | inr (p, q) ↦ Memᴰ.append_right cs (here q) ];
            one_each = (let l = n.one_each in length-append xs (x ∷ []) ∙ ap (λ (i : ℕ). i + 1) l ∙ sym (length-append cs (c ∷ [])));
            first = first;
            increasing = PairwiseFacts.pairwise_append ◌⊏◌ xs (x ∷ []) n.increasing ((λ y h. elim h [ ]), tt) before;
          },
        )
          where
            absent : c ∈ cs → ⊥
            absent m = false_not_true e (member_complete same decided c cs m)

            apart : (u v : C) → u ∈ cs → v ∈ (c ∷ []) → (u ≡ v) → ⊥
            apart u v h (there x7) p = elim x7 [ ]
            apart u v h (here q) p = absent (subst (λ (z : C). z ∈ cs) (p ∙ q) h)

            before : (u v : Arrival) → u ∈ xs → v ∈ (x ∷ []) → u ⊏ v
            before u v h (there x6) = elim x6 [ ]
            before u v h (here q) =
                let (k, p) = ListFacts.place xs h in
                let b : k < length xs = ListFacts.place_bound xs k p in
                let l = n.one_each in
                let (d, f) = ListFacts.place_exists cs k (omega arith) in
                subst (λ (w : Arrival). u ⊏ w) (sym q) (after u d (n.first k u d p f).0)

            first : (k : ℕ) (y : Arrival) (d : C) → get_elem? (xs ++ (x ∷ [])) k ≡ some y → get_elem? (cs ++ (c ∷ [])) k ≡ some d
                → ((y, d) ∈ now) × ((z : Arrival) → (z, d) ∈ now → (y ≡ z) ⊎ (y ⊏ z)) × FromBelow k y
            first k y d p q = cases (place-cases xs (x ∷ []) k y p) (place-cases cs (c ∷ []) k d q)
              where
                cases : (get_elem? xs k ≡ some y) ⊎ ((i : ℕ) × (length xs + i ≡ k) × (get_elem? (x ∷ []) i ≡ some y))
                    → (get_elem? cs k ≡ some d) ⊎ ((i : ℕ) × (length cs + i ≡ k) × (get_elem? (c ∷ []) i ≡ some d))
                    → ((y, d) ∈ now) × ((z : Arrival) → (z, d) ∈ now → (y ≡ z) ⊎ (y ⊏ z)) × FromBelow k y
                cases (inl u) (inl v) = still k y d u v
                cases (inl u) (inr (i, z, v)) = let b : k < length xs = ListFacts.place_bound xs k u in let l = n.one_each in absurd (omega arith)
                cases (inr (i, z, u)) (inl v) = let b : k < length cs = ListFacts.place_bound cs k v in let l = n.one_each in absurd (omega arith)
                cases (inr (i, z, u)) (inr (j, w, v)) =
                    let (i0, xy) = only-place x i y u in
                    let (j0, cd) = only-place c j d v in
                    let k0 : length cs ≡ k = omega arith in (
                      Memᴰ.append_right seen (here (λ t. (sym xy t, sym cd t))),
                      (λ z h. elim (last z d h) [
                        | inl l ↦ absurd (absent (subst (λ (a : C). a ∈ cs) (sym cd) (n.inside z d l)))
                        | inr (r, s) ↦ inl (sym xy ∙ sym r)
                      ]),
                      subst (λ (a : ℕ). FromBelow a y) k0 (subst (FromBelow (length cs)) xy below),
                    )

  -- entering a vertex leaves no fewer
  insert_length : (cs : List C) (c : C) → length cs ≤ length (insert same cs c)
  insert_length cs c = go (member same c cs)
    where
      go : (b : Bool) → length cs ≤ length (if b cs (cs ++ (c ∷ [])))
      go true = omega arith
      go false = let l = length-append cs (c ∷ []) in omega arith

  -- several arrivals more, in turn
  several : (new seen : List (Arrival × C)) (cs : List C) (xs : List Arrival) → Noted seen cs xs → Pairwise (λ y z. y.0 ⊏ z.0) new
      → ((y z : Arrival) (c d : C) → (y, c) ∈ seen → (z, d) ∈ new → y ⊏ z) → ((z : Arrival) (d : C) → (z, d) ∈ new → FromBelow (length cs) z)
      → (xs' : List Arrival) × Noted (seen ++ new) (insert_all same cs (map (λ z. z.1) new)) xs'
  unfolding now
  several [] seen cs xs n p after below = (xs, subst (λ (s : List (Arrival × C)). Noted s cs xs) (sym (append-nil seen)) n)
  several ((x, c) ∷ new) seen cs xs n p after below =
      let (xs', n') = one_more seen cs xs n x c (λ y d m. after y x d c m (here refl)) (below x c (here refl)) in
      let l = insert_length cs c in
      let (xs'', n'') = several new (seen ++ ((x, c) ∷ [])) (insert same cs c) xs' n' p.1
      (λ y z b d i j. elim (last seen cs xs n x c (λ y d m. after y x d c m (here refl)) (below x c (here refl)) y b i) [
        | inl h ↦ after y z b d h (there j)
        | inr (q, r) ↦ subst (λ (w : Arrival). w ⊏ z) (sym q) (p.0 (z, d) j)
      ])
      (λ z d m. from_below_up (length cs) (length (insert same cs c)) z l (below z d (there m))) in
      (xs'', subst (λ (s : List (Arrival × C)). Noted s (insert_all same (insert same cs c) (map (λ z. z.1) new)) xs'') (append_assoc seen ((x, c) ∷ []) new) n'')

-- the vertices of a list, and the labelled steps out of each, with keys
module _ {C L : Type 0} (start_key : C → Key) (key : L → Key) (starts : List C) (out : C → List (L × C)) where
  abbrev pub listed : KeyedGraph C
  listed = record {
    Starts = λ s c. (start_key c ≡ s) × (c ∈ starts);
    Steps = λ c e d. (l : L) × (key l ≡ e) × ◌∈◌ {A = L × C} (l, d) (out c);
  }

module _ {C L : Type 0} (same : C → C → Bool) (decided : Decides same) (start_key : C → Key) (key : L → Key) (starts : List C) (out : C → List (L × C))
    (starts-increase : Pairwise (λ c d. start_key c ≺ start_key d) starts)
    (steps-increase : (c : C) → Pairwise (λ s t. key s.0 ≺ key t.0) (out c)) where
  -- the arrivals by the first k vertices
  abbrev ReachesBy : ℕ → List C → Arrival → C → Type 0
  ReachesBy k cs (start s) c = (listed start_key key starts out).Starts s c
  ReachesBy k cs (step i e) c = (i < k) × ((b : C) × (get_elem? cs i ≡ some b) × (listed start_key key starts out).Steps b e c)

  -- What holds when the first k vertices have been taken up.
  record Stage (k : ℕ) (cs : List C) : Type 0 where
    seen : List (Arrival × C)
    arrivals : List Arrival
    noted : Noted same decided seen cs arrivals
    sound : (x : Arrival) (c : C) → (x, c) ∈ seen → ReachesBy k cs x c
    complete : (x : Arrival) (c : C) → ReachesBy k cs x c → (x, c) ∈ seen

  -- the starts as arrivals, and the steps out of vertex number k
  start_arrival : C → Arrival × C
  start_arrival c = (start (start_key c), c)

  step_arrival : ℕ → L × C → Arrival × C
  step_arrival k s = (step k (key s.0), s.1)

  -- the starts
  stage_begin : Stage zero (insert_all same [] starts)
  unfolding start_arrival
  stage_begin =
      let (xs, n) = several same decided (map start_arrival starts) [] [] []
      (record { distinct = tt; inside = λ x c m. elim m [ ]; one_each = refl; first = λ k x c e f. ListFacts.none_not_some refl e; increasing = tt })
      (pairwise_map (λ c d. start_key c ≺ start_key d) (λ y z. y.0 ⊏ z.0) start_arrival (λ a b h. h) starts starts-increase)
      (λ y z c d m. elim m [ ]) (λ z d m. starting z d m) in
      record {
        seen = map start_arrival starts;
        arrivals = xs;
        noted = subst (λ (r : List C). Noted same decided (map start_arrival starts) (insert_all same [] r) xs) whole n;
        sound = λ x c m. reaches x c (ListFacts.map_members start_arrival starts m);
        complete = λ x c r. noted-start x c r;
      }
    where
      whole : map (λ (z : Arrival × C). z.1) (map start_arrival starts) ≡ starts
      whole = map_map (λ (z : Arrival × C). z.1) start_arrival starts ∙ same_list_lem starts
        where
          same_list_lem : (xs : List C) → map (λ (x : C). (start_arrival x).1) xs ≡ xs
          same_list_lem [] = refl
          same_list_lem (x ∷ xs) = ap {B = List C} (λ r. x ∷ r) (same_list_lem xs)

      starting : (z : Arrival) (d : C) → (z, d) ∈ map start_arrival starts → FromBelow zero z
      starting z d m = let (c, i, e) = ListFacts.map_members start_arrival starts m in
          subst (λ (w : Arrival). FromBelow zero w) (sym (ap (λ (y : Arrival × C). y.0) e)) tt

      reaches : (x : Arrival) (c : C) → (b : C) × (b ∈ starts) × ((x, c) ≡ start_arrival b) → ReachesBy zero (insert_all same [] starts) x c
      reaches x c (b, m, e) =
          subst (λ (w : Arrival). ReachesBy zero (insert_all same [] starts) w c) (sym (ap (λ (y : Arrival × C). y.0) e))
          (let p : c ≡ b = ap (λ (y : Arrival × C). y.1) e in (ap start_key p, subst (λ (z : C). z ∈ starts) (sym p) m))

      noted-start : (x : Arrival) (c : C) → ReachesBy zero (insert_all same [] starts) x c → (x, c) ∈ map start_arrival starts
      noted-start (start s) c (e, m) = subst (λ (t : Key). (start t, c) ∈ map start_arrival starts) e (ListFacts.map_keeps start_arrival starts m)
      noted-start (step i e) c (h, r) = absurd (omega arith)

  -- the next vertex taken up
  stage_next : (k : ℕ) (cs : List C) (c : C) → get_elem? cs k ≡ some c → Stage k cs → Stage (suc k) (insert_all same cs (successors out c))
  unfolding step_arrival
  stage_next k cs c e g =
      let (xs, n) = several same decided new g.seen cs g.arrivals g.noted
      (pairwise_map (λ s t. key s.0 ≺ key t.0) (λ y z. y.0 ⊏ z.0) (step_arrival k) (λ s t h. inr (refl, h)) (out c) (steps-increase c))
      (λ y z b d m h. earlier y z b (g.sound y b m) (by_step z d h)) (λ z d h. below z (by_step z d h)) in
      record {
        seen = g.seen ++ new;
        arrivals = xs;
        noted = subst (λ (r : List C). Noted same decided (g.seen ++ new) (insert_all same cs r) xs) (map_map (λ (z : Arrival × C). z.1) (step_arrival k) (out c)) n;
        sound = λ x d m. elim (Memᴰ.append_cases g.seen m) [
          | inl h ↦ kept x d (g.sound x d h)
          | inr h ↦ fresh x d (ListFacts.map_members (step_arrival k) (out c) h)
        ];
        complete = complete;
      }
    where
      new : List (Arrival × C)
      new = map (step_arrival k) (out c)

      more : List C
      more = insert_all same cs (successors out c)

      by_step : (z : Arrival) (d : C) → (z, d) ∈ new → (f : Key) × (z ≡ step k f)
      by_step z d m = let (s, i, q) = ListFacts.map_members (step_arrival k) (out c) m in (key s.0, ap (λ (y : Arrival × C). y.0) q)

      earlier : (y z : Arrival) (b : C) → ReachesBy k cs y b → (f : Key) × (z ≡ step k f) → y ⊏ z
      earlier y z b r (f, q) = subst (λ (w : Arrival). y ⊏ w) (sym q) (go y r)
        where
          go : (y : Arrival) → ReachesBy k cs y b → y ⊏ step k f
          go (start s) r = tt
          go (step i e) r = inl r.0

      below : (z : Arrival) → (f : Key) × (z ≡ step k f) → FromBelow (length cs) z
      below z (f, q) = subst (λ (w : Arrival). FromBelow (length cs) w) (sym q) (ListFacts.place_bound cs k e)

      kept : (x : Arrival) (d : C) → ReachesBy k cs x d → ReachesBy (suc k) more x d
      kept (start s) d r = r
      kept (step i f) d (h, (b, p, r)) = (omega arith, (b, insert_all-place same decided cs (successors out c) i b p, r))

      fresh : (x : Arrival) (d : C) → (s : L × C) × (s ∈ out c) × ((x, d) ≡ step_arrival k s) → ReachesBy (suc k) more x d
      fresh x d (s, m, q) =
          let p : d ≡ s.1 = ap (λ (y : Arrival × C). y.1) q in
          subst (λ (w : Arrival). ReachesBy (suc k) more w d) (sym (ap (λ (y : Arrival × C). y.0) q))
          (omega arith, (c, insert_all-place same decided cs (successors out c) k c e, (s.0, refl, subst (λ (z : C). ◌∈◌ {A = L × C} (s.0, z) (out c)) (sym p) m)))

      -- what stands below the length of the first list stood there
      stood : (i : ℕ) (b : C) → i < length cs → get_elem? more i ≡ some b → get_elem? cs i ≡ some b
      stood i b h p =
          let (a, q) = ListFacts.place_exists cs i h in
          q ∙ sym (insert_all-place same decided cs (successors out c) i a q) ∙ p

      complete : (x : Arrival) (d : C) → ReachesBy (suc k) more x d → (x, d) ∈ (g.seen ++ new)
      complete (start s) d r = Memᴰ.append_left new (g.complete (start s) d r)
      complete (step i f) d (h, (b, p, (l, q, m))) =
          let bound : k < length cs = ListFacts.place_bound cs k e in
          let b_at = stood i b (omega arith) p in
          elim (compared i k) [
            | inl j ↦ Memᴰ.append_left new (g.complete (step i f) d (j, (b, b_at, (l, q, m))))
            | inr (inl j) ↦ Memᴰ.append_right g.seen (at_k j (some-injective b c (sym b_at ∙ ap (get_elem? cs) j ∙ e)))
            | inr (inr j) ↦ absurd (omega arith)
          ]
        where
          at_k : i ≡ k → b ≡ c → (step i f, d) ∈ new
          at_k j z = subst (λ (w : Arrival × C). w ∈ new) (λ t. (step (sym j t) (q t), d))
              (ListFacts.map_keeps (step_arrival k) (out c) (subst (λ (a : C). ◌∈◌ {A = L × C} (l, d) (out a)) z m))

  -- all vertices taken up
  stage_done : (k : ℕ) (cs : List C) → length cs ≤ k → Stage k cs → Ordered (listed start_key key starts out) cs
  stage_done k cs h g = record {
    distinct = g.noted.distinct;
    complete = λ x c r. g.noted.inside x c (g.complete x c (by x c r));
    arrivals = g.arrivals;
    one_each = g.noted.one_each;
    first-reached = λ j x c e f.
        let (m, least, b) = g.noted.first j x c e f in
        record { reaches = un x c (g.sound x c m); first = λ y r. least y (g.complete y c (by y c r)); from_below = b };
    increasing = λ i j x y p q l. PairwiseFacts.pairwise_places ◌⊏◌ g.arrivals g.noted.increasing i j p q l;
  }
    where
      by : (x : Arrival) (c : C) → Reaches (listed start_key key starts out) cs x c → ReachesBy k cs x c
      by (start s) c r = r
      by (step i e) c (b, p, r) = let l : i < length cs = ListFacts.place_bound cs i p in (omega arith, (b, p, r))

      un : (x : Arrival) (c : C) → ReachesBy k cs x c → Reaches (listed start_key key starts out) cs x c
      un (start s) c r = r
      un (step i e) c (l, r) = r

  -- the search from a stage on
  explore_ordered : (fuel cap k : ℕ) (cs : List C) → cap < fuel + k → Stage k cs → length (explore same out fuel cap k cs) ≤ cap
      → Ordered (listed start_key key starts out) (explore same out fuel cap k cs)
  explore_ordered zero cap k cs h g small = stage_done k cs (omega arith) g
  explore_ordered (suc fuel) cap k cs h g small = explore-cases same out fuel cap k cs
      (λ r. length r ≤ cap → Ordered (listed start_key key starts out) r)
      (λ e l. stage_done k cs (ListFacts.place_none cs k e) g)
      (λ c e l m. absurd (omega arith))
      (λ c e l m. explore_ordered fuel cap (suc k) (insert_all same cs (successors out c)) (omega arith) (stage_next k cs c e g) m)
      small

  -- Exploration finds the vertices in the order first reached.
  pub reached_ordered : (cap : ℕ) → length (reached same out cap starts) ≤ cap → Ordered (listed start_key key starts out) (reached same out cap starts)
  unfolding reached
  reached_ordered cap small = explore_ordered (suc cap) cap zero (insert_all same [] starts) (omega arith) stage_begin small
