-- The moves out of a state of the product as a list with keys, in the order of their keys; and the pairs of initial
-- states.
use mathlib.Core.Path.{◌≡◌, refl, sym, ◌∙◌, ap, subst}
use mathlib.Core.Logic.{inl, inr}
use mathlib.Core.Bool.{Bool, true, false}
use mathlib.Core.Option.{Option, none, some, some-injective, none-ne-some}
use mathlib.Core.List.Memᴰ
use mathlib.Core.List.{List, [], ◌∷◌, ◌++◌, map}
use Prim.Native.Nat.{ℕ, zero, suc, ◌+◌, ◌<◌}
use native.Mathlib.Omega.{arith}
use lib.Dec.{eqb}
use lib.ListN.{get_elem?}
use Rattle.automata.specs.Lists.{if, ◌∈◌, here, there, filter, numbered, Pairwise}
use Rattle.automata.specs.OrderedSum.{OrderedSum}
use Rattle.automata.specs.Automaton.{State, Arc, Automaton, Content, content}
use Rattle.automata.specs.System.{system, out_at, final_at}
use Rattle.automata.specs.Product.{Vertex, both_content, after_first_content, after_second_content, both, all_both, all_after_first, all_after_second, all_pairs, initials_from, product_system}
use Rattle.automata.proofs.ListFacts
use Rattle.automata.proofs.PairwiseFacts
use Rattle.laws.specs.Order.{Key, ◌≺◌, pair_key, Leaves, Moves}
use Rattle.laws.proofs.Lemmas.Sorted.{map_map, pairwise_map}

-- ---- initial states and pairs of them

module _ {W : Type 0} where
  -- the initial states of a list, by number ...
  pub initials_members : (k : ℕ) (ss : List (State W)) (p : ℕ) → p ∈ initials_from k ss
      → (j : ℕ) × (s : State W) × (i : W) × (k + j ≡ p) × (get_elem? ss j ≡ some s) × (s.initial ≡ some i)
  initials_members k [] p h = elim h [ ]
  initials_members k (s ∷ ss) p h = go s.initial refl h (λ m. initials_members (suc k) ss p m)
    where
      Found : Type 0
      Found = (j : ℕ) × (t : State W) × (i : W) × (k + j ≡ p) × (get_elem? (s ∷ ss) j ≡ some t) × (t.initial ≡ some i)

      later : (j : ℕ) × (t : State W) × (i : W) × (suc k + j ≡ p) × (get_elem? ss j ≡ some t) × (t.initial ≡ some i) → Found
      later (j, t, i, e, a, b) = (suc j, t, i, omega arith, a, b)

      go : (o : Option W) → s.initial ≡ o → p ∈ elim o as (λ o. List ℕ) [ none ↦ initials_from (suc k) ss | some i ↦ k ∷ initials_from (suc k) ss ]
          → (p ∈ initials_from (suc k) ss → (j : ℕ) × (t : State W) × (i : W) × (suc k + j ≡ p) × (get_elem? ss j ≡ some t) × (t.initial ≡ some i)) → Found
      go none e m ih = later (ih m)
      go (some i) e (here q) ih = (zero, s, i, omega arith, refl, e)
      go (some i) e (there m) ih = later (ih m)

  -- ... in rising order
  pub initials_increase : (k : ℕ) (ss : List (State W)) → Pairwise ◌<◌ (initials_from k ss)
  initials_increase k [] = tt
  initials_increase k (s ∷ ss) = go s.initial (initials_increase (suc k) ss)
    where
      go : (o : Option W) → Pairwise ◌<◌ (initials_from (suc k) ss)
          → Pairwise ◌<◌ (elim o as (λ o. List ℕ) [ none ↦ initials_from (suc k) ss | some i ↦ k ∷ initials_from (suc k) ss ])
      go none r = r
      go (some i) r = ((λ p m. let (j, t, _, e, _, _) = initials_members (suc k) ss p m in omega arith), r)

-- all pairs ...
pub pairs_members : (ps qs : List ℕ) (c : Vertex) → c ∈ all_pairs ps qs → (p : ℕ) × (q : ℕ) × (p ∈ ps) × (q ∈ qs) × (c ≡ (some p, some q))
pairs_members [] qs c h = elim h [ ]
pairs_members (x ∷ ps) qs c h = elim (Memᴰ.append_cases (map (λ q. (some x, some q)) qs) h) [
  | inl m ↦ (let (q, i, e) = ListFacts.map_members (λ (q : ℕ). (some x, some q)) qs m in (x, q, here refl, i, e))
  | inr m ↦ (let (p, q, i, j, e) = pairs_members ps qs c m in (p, q, there i, j, e))
]

-- ... by the first, then the second
pub pairs_increase : (ps qs : List ℕ) → Pairwise ◌<◌ ps → Pairwise ◌<◌ qs → Pairwise (λ c d. pair_key c ≺ pair_key d) (all_pairs ps qs)
pairs_increase [] qs hp hq = tt
pairs_increase (p ∷ ps) qs hp hq = PairwiseFacts.pairwise_append (λ c d. pair_key c ≺ pair_key d) (map (λ q. (some p, some q)) qs) (all_pairs ps qs)
    (pairwise_map ◌<◌ (λ c d. pair_key c ≺ pair_key d) (λ (q : ℕ). (some p, some q)) (λ a b h. inr (refl, inl h)) qs hq)
    (pairs_increase ps qs hp.1 hq)
    (λ c d m n.
    let (q, _, e) = ListFacts.map_members (λ (q : ℕ). (some p, some q)) qs m in
    let (r, s, i, _, f) = pairs_members ps qs d n in
    let l : p < r = hp.0 r i in
    subst (λ (z : Vertex). pair_key z ≺ pair_key d) (sym e) (subst (λ (z : Vertex). p ∷ q ∷ [] ≺ pair_key z) (sym f) (inl l)))

-- ---- the moves as a list with keys

module _ (S : OrderedSum) (A B : Automaton S.W) where
  open S use {W}

  -- a move with its key
  abbrev pub Keyed : Type 0
  Keyed = (Key × Content W) × Vertex

  abbrev key_of : Keyed → Key
  key_of z = z.0.0

  abbrev pub forget : Keyed → Content W × Vertex
  forget z = (z.0.1, z.1)

  -- the arcs that leave a place, with their numbers
  abbrev arcs_at : Automaton W → Option ℕ → List (ℕ × Arc W)
  arcs_at C none = []
  arcs_at C (some q) = filter (λ e. eqb e.1.source q) (numbered zero C.arcs)

  -- what an arc carries, and where it leads
  abbrev onward : ℕ × Arc W → Content W × ℕ
  onward e = (content e.1, e.1.target)

  -- the arcs out of a state with their numbers and without
  filter-numbered : (q k : ℕ) (es : List (Arc W))
      → map (λ a. (content a, a.target)) (filter (λ a. eqb a.source q) es) ≡ map onward (filter (λ e. eqb e.1.source q) (numbered k es))
  filter-numbered q k [] = refl
  filter-numbered q k (a ∷ es) = go (eqb a.source q) (filter-numbered q (suc k) es)
    where
      go : (b : Bool) → map (λ a. (content a, a.target)) (filter (λ a. eqb a.source q) es) ≡ map onward (filter (λ e. eqb e.1.source q) (numbered (suc k) es))
          → map (λ a. (content a, a.target)) (if b (a ∷ filter (λ a. eqb a.source q) es) (filter (λ a. eqb a.source q) es))
          ≡ map onward (if b ((k, a) ∷ filter (λ e. eqb e.1.source q) (numbered (suc k) es)) (filter (λ e. eqb e.1.source q) (numbered (suc k) es)))
      go true ih = ap {B = List (Content W × ℕ)} (λ r. (content a, a.target) ∷ r) ih
      go false ih = ih

  -- the same of a place
  out_at_numbered : (C : Automaton W) (x : Option ℕ) → out_at S (system C) x ≡ map onward (arcs_at C x)
  out_at_numbered C none = refl
  out_at_numbered C (some q) = filter-numbered q zero C.arcs

  -- they stand by number
  arcs_at_increase : (C : Automaton W) (x : Option ℕ) → Pairwise (λ e f. e.0 < f.0) (arcs_at C x)
  arcs_at_increase C none = tt
  arcs_at_increase C (some q) = PairwiseFacts.pairwise_filter (λ e f. e.0 < f.0) (λ e. eqb e.1.source q) (numbered zero C.arcs) (PairwiseFacts.pairwise_numbered zero C.arcs)

  -- each leaves the place
  arcs_at_members : (C : Automaton W) (x : Option ℕ) (e : ℕ × Arc W) → e ∈ arcs_at C x → Leaves S A B C x e.0 e.1
  arcs_at_members C none e m = elim m [ ]
  arcs_at_members C (some q) e m =
      let (i, t) = ListFacts.filter_members (λ (e : ℕ × Arc W). eqb e.1.source q) (numbered zero C.arcs) m in
      let (n, z, p) = ListFacts.numbered_members zero C.arcs i in
      let en : n ≡ e.0 = omega arith in
      (subst (λ (k : ℕ). get_elem? C.arcs k ≡ some e.1) en p, ap some (sym ((ListFacts.numbers_decided).sound e.1.source q t)))

  -- and all that leave it are there
  arcs_at_keep : (C : Automaton W) (x : Option ℕ) (e : ℕ) (a : Arc W) → Leaves S A B C x e a → ◌∈◌ {A = ℕ × Arc W} (e, a) (arcs_at C x)
  arcs_at_keep C none e a (p, s) = absurd (none-ne-some a.source s)
  arcs_at_keep C (some q) e a (p, s) =
      let z : zero + e ≡ e = omega arith in
      ListFacts.filter_keeps (λ (e : ℕ × Arc W). eqb e.1.source q) (numbered zero C.arcs)
      (subst (λ (k : ℕ). ◌∈◌ {A = ℕ × Arc W} (k, a) (numbered zero C.arcs)) z (ListFacts.numbered_keeps zero C.arcs e p))
      (rw (← some-injective q a.source s) ((ListFacts.numbers_decided).complete q))

  -- the three kinds of moves
  abbrev key_both : ℕ × Arc W → ℕ × Arc W → Keyed
  key_both s r = ((0 ∷ s.0 ∷ r.0 ∷ [], both_content S (content s.1) (content r.1)), (some s.1.target, some r.1.target))

  abbrev key_second : W → ℕ × Arc W → Keyed
  key_second w r = ((1 ∷ r.0 ∷ [], after_first_content S A.tapes w (content r.1)), (none, some r.1.target))

  abbrev key_first : W → ℕ × Arc W → Keyed
  key_first w s = ((2 ∷ s.0 ∷ [], after_second_content S B.tapes w (content s.1)), (some s.1.target, none))

  -- all of each kind, out of two places
  abbrev all_key_both : List (ℕ × Arc W) → List (ℕ × Arc W) → List Keyed
  all_key_both [] rs = []
  all_key_both (s ∷ ss) rs = map (key_both s) rs ++ all_key_both ss rs

  abbrev all_key_second : Option W → List (ℕ × Arc W) → List Keyed
  all_key_second none rs = []
  all_key_second (some w) rs = map (key_second w) rs

  abbrev all_key_first : Option W → List (ℕ × Arc W) → List Keyed
  all_key_first none ss = []
  all_key_first (some w) ss = map (key_first w) ss

  -- the moves out of a state, in their order
  abbrev pub keyed_out : Vertex → List Keyed
  keyed_out c = all_key_both (arcs_at A c.0) (arcs_at B c.1)
      ++ (all_key_second (final_at S (system A) c.0) (arcs_at B c.1) ++ all_key_first (final_at S (system B) c.1) (arcs_at A c.0))

  -- without the keys they are the steps of the product
  both-forget : (ss rs : List (ℕ × Arc W)) → map forget (all_key_both ss rs) ≡ all_both S (map onward ss) (map onward rs)
  both-forget [] rs = refl
  both-forget (s ∷ ss) rs = ListFacts.map_append forget (map (key_both s) rs) (all_key_both ss rs)
      ∙ (λ i. (map_map forget (key_both s) rs ∙ sym (map_map (both S (onward s)) onward rs)) i ++ both-forget ss rs i)

  second_forget : (o : Option W) (rs : List (ℕ × Arc W)) → map forget (all_key_second o rs) ≡ all_after_first S A.tapes o (map onward rs)
  second_forget none rs = refl
  second_forget (some w) rs = map_map forget (key_second w) rs ∙ sym (map_map _ onward rs)

  first-forget : (o : Option W) (ss : List (ℕ × Arc W)) → map forget (all_key_first o ss) ≡ all_after_second S B.tapes o (map onward ss)
  first-forget none ss = refl
  first-forget (some w) ss = map_map forget (key_first w) ss ∙ sym (map_map _ onward ss)

  -- without their keys they are the moves of the product
  pub out-forget : (c : Vertex) → map forget (keyed_out c) ≡ (product_system S A B).out c
  out-forget c =
      ListFacts.map_append forget (all_key_both xs ys) (all_key_second f ys ++ all_key_first g xs)
      ∙ (λ i. both-forget xs ys i ++ ListFacts.map_append forget (all_key_second f ys) (all_key_first g xs) i)
      ∙ (λ i. all_both S (map onward xs) (map onward ys) ++ (second_forget f ys i ++ first-forget g xs i))
      ∙ (λ i. all_both S (sym (out_at_numbered A c.0) i) (sym (out_at_numbered B c.1) i)
      ++ (all_after_first S A.tapes f (sym (out_at_numbered B c.1) i) ++ all_after_second S B.tapes g (sym (out_at_numbered A c.0) i)))
    where
      xs : List (ℕ × Arc W)
      xs = arcs_at A c.0

      ys : List (ℕ × Arc W)
      ys = arcs_at B c.1

      f : Option W
      f = final_at S (system A) c.0

      g : Option W
      g = final_at S (system B) c.1

  -- what each list holds
  both_members : (ss rs : List (ℕ × Arc W)) (z : Keyed) → z ∈ all_key_both ss rs → (s : ℕ × Arc W) × (r : ℕ × Arc W) × (s ∈ ss) × (r ∈ rs) × (z ≡ key_both s r)
  both_members [] rs z h = elim h [ ]
  both_members (s ∷ ss) rs z h = elim (Memᴰ.append_cases (map (key_both s) rs) h) [
    | inl m ↦ (let (r, i, e) = ListFacts.map_members (key_both s) rs m in (s, r, here refl, i, e))
    | inr m ↦ (let (t, r, i, j, e) = both_members ss rs z m in (t, r, there i, j, e))
  ]

  -- and the other way round
  both_keep : (ss rs : List (ℕ × Arc W)) (s r : ℕ × Arc W) → s ∈ ss → r ∈ rs → key_both s r ∈ all_key_both ss rs
  both_keep [] rs s r x'' j = elim x'' [ ]
  both_keep (t ∷ ss) rs s r (here e) j =
      Memᴰ.append_left (all_key_both ss rs) (subst (λ (u : ℕ × Arc W). key_both u r ∈ map (key_both t) rs) (sym e) (ListFacts.map_keeps (key_both t) rs j))
  both_keep (t ∷ ss) rs s r (there i) j = Memᴰ.append_right (map (key_both t) rs) (both_keep ss rs s r i j)

  -- what stands among the moves after an end ...
  second_members : (o : Option W) (rs : List (ℕ × Arc W)) (z : Keyed) → z ∈ all_key_second o rs → (w : W) × (r : ℕ × Arc W) × (o ≡ some w) × (r ∈ rs) × (z ≡ key_second w r)
  second_members none rs z h = elim h [ ]
  second_members (some w) rs z h = let (r, i, e) = ListFacts.map_members (key_second w) rs h in (w, r, refl, i, e)

  first_members : (o : Option W) (ss : List (ℕ × Arc W)) (z : Keyed) → z ∈ all_key_first o ss → (w : W) × (s : ℕ × Arc W) × (o ≡ some w) × (s ∈ ss) × (z ≡ key_first w s)
  first_members none ss z h = elim h [ ]
  first_members (some w) ss z h = let (s, i, e) = ListFacts.map_members (key_first w) ss h in (w, s, refl, i, e)

  -- ... and the other way round
  second_keep : (o : Option W) (w : W) (rs : List (ℕ × Arc W)) (r : ℕ × Arc W) → o ≡ some w → r ∈ rs → key_second w r ∈ all_key_second o rs
  second_keep o w rs r e i = subst (λ (u : Option W). key_second w r ∈ all_key_second u rs) (sym e) (ListFacts.map_keeps (key_second w) rs i)

  first_keep : (o : Option W) (w : W) (ss : List (ℕ × Arc W)) (s : ℕ × Arc W) → o ≡ some w → s ∈ ss → key_first w s ∈ all_key_first o ss
  first_keep o w ss s e i = subst (λ (u : Option W). key_first w s ∈ all_key_first u ss) (sym e) (ListFacts.map_keeps (key_first w) ss i)

  -- they come in the order of their keys
  abbrev Later : Keyed → Keyed → Type 0
  Later y z = key_of y ≺ key_of z

  -- the keys increase
  both_increase : (ss rs : List (ℕ × Arc W)) → Pairwise (λ e f. e.0 < f.0) ss → Pairwise (λ e f. e.0 < f.0) rs → Pairwise Later (all_key_both ss rs)
  both_increase [] rs hs hr = tt
  both_increase (s ∷ ss) rs hs hr = PairwiseFacts.pairwise_append Later (map (key_both s) rs) (all_key_both ss rs)
      (pairwise_map (λ e f. e.0 < f.0) Later (key_both s) (λ a b h. inr (refl, inr (refl, inl h))) rs hr)
      (both_increase ss rs hs.1 hr)
      (λ y z m n.
      let (r, _, e) = ListFacts.map_members (key_both s) rs m in
      let (t, u, i, _, f) = both_members ss rs z n in
      let l : s.0 < t.0 = hs.0 t i in
      subst (λ (x : Keyed). Later x z) (sym e) (subst (λ (x : Keyed). Later (key_both s r) x) (sym f) (inr (refl, inl l))))

  second_increase : (o : Option W) (rs : List (ℕ × Arc W)) → Pairwise (λ e f. e.0 < f.0) rs → Pairwise Later (all_key_second o rs)
  second_increase none rs h = tt
  second_increase (some w) rs h = pairwise_map (λ e f. e.0 < f.0) Later (key_second w) (λ a b l. inr (refl, inl l)) rs h

  first_increase : (o : Option W) (ss : List (ℕ × Arc W)) → Pairwise (λ e f. e.0 < f.0) ss → Pairwise Later (all_key_first o ss)
  first_increase none ss h = tt
  first_increase (some w) ss h = pairwise_map (λ e f. e.0 < f.0) Later (key_first w) (λ a b l. inr (refl, inl l)) ss h

  -- also from kind to kind
  pub keyed_increase : (c : Vertex) → Pairwise (λ y z. y.0.0 ≺ z.0.0) (keyed_out c)
  keyed_increase c = PairwiseFacts.pairwise_append Later (all_key_both xs ys) (all_key_second f ys ++ all_key_first g xs)
      (both_increase xs ys (arcs_at_increase A c.0) (arcs_at_increase B c.1))
      (PairwiseFacts.pairwise_append Later (all_key_second f ys) (all_key_first g xs) (second_increase f ys (arcs_at_increase B c.1)) (first_increase g xs (arcs_at_increase A c.0))
      (λ y z m n.
      let (v, r, _, _, e) = second_members f ys y m in
      let (w, s, _, _, h) = first_members g xs z n in
      subst (λ (x : Keyed). Later x z) (sym e) (subst (λ (x : Keyed). Later (key_second v r) x) (sym h) (inl (omega arith)))))
      (λ y z m n.
      let (s, r, _, _, e) = both_members xs ys y m in
      subst (λ (x : Keyed). Later x z) (sym e) (elim (Memᴰ.append_cases (all_key_second f ys) n) [
        | inl i ↦ (let (w, t, _, _, h) = second_members f ys z i in subst (λ (x : Keyed). Later (key_both s r) x) (sym h) (inl (omega arith)))
        | inr i ↦ (let (w, t, _, _, h) = first_members g xs z i in subst (λ (x : Keyed). Later (key_both s r) x) (sym h) (inl (omega arith)))
      ]))
    where
      xs : List (ℕ × Arc W)
      xs = arcs_at A c.0

      ys : List (ℕ × Arc W)
      ys = arcs_at B c.1

      f : Option W
      f = final_at S (system A) c.0

      g : Option W
      g = final_at S (system B) c.1

  -- they are the moves
  pub keyed_moves : (c : Vertex) (z : Keyed) → z ∈ keyed_out c → Moves S A B c (key_of z) (forget z)
  keyed_moves c z h = elim (Memᴰ.append_cases (all_key_both (arcs_at A c.0) (arcs_at B c.1)) h) [
    | inl m ↦ (let (s, r, i, j, e) = both_members (arcs_at A c.0) (arcs_at B c.1) z m in
        inl (s.0, r.0, s.1, r.1, arcs_at_members A c.0 s i, arcs_at_members B c.1 r j, ap forget e, sym (ap key_of e)))
    | inr k ↦ elim (Memᴰ.append_cases (all_key_second (final_at S (system A) c.0) (arcs_at B c.1)) k) [
      | inl m ↦ (let (w, r, o, i, e) = second_members (final_at S (system A) c.0) (arcs_at B c.1) z m in
          inr (inl (r.0, r.1, w, o, arcs_at_members B c.1 r i, ap forget e, sym (ap key_of e))))
      | inr m ↦ (let (w, s, o, i, e) = first_members (final_at S (system B) c.1) (arcs_at A c.0) z m in
          inr (inr (s.0, s.1, w, o, arcs_at_members A c.0 s i, ap forget e, sym (ap key_of e))))
    ]
  ]

  -- and the other way round
  pub moves_keyed : (c : Vertex) (s : Key) (l : Content W) (d : Vertex) → Moves S A B c s (l, d) → ◌∈◌ {A = Keyed} ((s, l), d) (keyed_out c)
  moves_keyed c s l d (inl (e, f, a, b, p, q, y, k)) =
      subst (λ (z : Keyed). z ∈ keyed_out c) (λ i. ((k i, (sym y i).0), (sym y i).1))
      (Memᴰ.append_left _ (both_keep (arcs_at A c.0) (arcs_at B c.1) (e, a) (f, b) (arcs_at_keep A c.0 e a p) (arcs_at_keep B c.1 f b q)))
  moves_keyed c s l d (inr (inl (f, b, w, o, q, y, k))) =
      subst (λ (z : Keyed). z ∈ keyed_out c) (λ i. ((k i, (sym y i).0), (sym y i).1))
      (Memᴰ.append_right (all_key_both (arcs_at A c.0) (arcs_at B c.1)) (Memᴰ.append_left _
      (second_keep (final_at S (system A) c.0) w (arcs_at B c.1) (f, b) o (arcs_at_keep B c.1 f b q))))
  moves_keyed c s l d (inr (inr (e, a, w, o, p, y, k))) =
      subst (λ (z : Keyed). z ∈ keyed_out c) (λ i. ((k i, (sym y i).0), (sym y i).1))
      (Memᴰ.append_right (all_key_both (arcs_at A c.0) (arcs_at B c.1)) (Memᴰ.append_right (all_key_second (final_at S (system A) c.0) (arcs_at B c.1))
      (first_keep (final_at S (system B) c.1) w (arcs_at A c.0) (e, a) o (arcs_at_keep A c.0 e a p))))
