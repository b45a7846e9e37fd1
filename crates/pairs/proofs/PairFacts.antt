-- Facts of lists of pairs: in bytes, by value, and in a loop over them.
use Prim.Native.Nat.{ℕ, zero, suc, ◌+◌, ◌*◌, ◌/◌, ◌≤◌, ◌<◌}
use mathlib.Core.Path.{◌≡◌, refl, sym, ap, ap₂, ◌∙◌}
use mathlib.Core.Bool.{true, false}
use mathlib.Core.List.{List, [], ◌∷◌, ◌++◌, map}
use native.Mathlib.Omega.{arith}
use lib.ListN.{length, get_or, take, drop}
use borrow.Author.Tests.{leb-true, lt-ltb}
use Rattle.automata.specs.Lists.{and}
use Rattle.automata.specs.TapePair.{Pair, TapePair, tapes_of, behind}
use Rattle.automata.specs.Projection.{is_tape}
use Rattle.automata.specs.Join.{within}
use Rattle.automata.proofs.TestFacts.{and_true}
use Rattle.table.specs.declared.pair.Pair as memory
use Rattle.table.specs.declared.pair.PairList.{PairList}
use Rattle.table.specs.Pairs.{pair_as, tapes_as, pairs_as, no_pair, Within, Named}
use Rattle.pairs.specs.PairBytes.{pairs_of, pair_at}
use Rattle.pairs.specs.Judgement.{Between, Sided, FirstFour, Movable, Moved, moved_at}

-- ---- the pairs of a list of bytes
-- a third as many as there are bytes
pub pairs_count : (bs : List ℕ) → length (pairs_of bs) ≡ length bs / 3
unfolding pairs_of
pairs_count [] = omega arith
pairs_count (x ∷ []) = omega arith
pairs_count (x ∷ y ∷ []) = omega arith
pairs_count (x ∷ y ∷ z ∷ bs) = let ih = pairs_count bs in omega (arith, ih)

pairs-from : (bs : List ℕ) (at : ℕ) → suc (suc at) < length bs
    → pairs_of (drop at bs) ≡ record { first = get_or bs at 0; second = get_or bs (suc at) 0; limit = get_or bs (suc (suc at)) 0 } ∷ pairs_of (drop (suc (suc (suc at))) bs)
unfolding pairs_of
pairs-from [] at h = absurd (omega arith)
pairs-from (x ∷ []) at h = absurd (omega arith)
pairs-from (x ∷ y ∷ []) at h = absurd (omega arith)
pairs-from (x ∷ y ∷ z ∷ bs) zero h = refl
pairs-from (x ∷ y ∷ z ∷ bs) (suc at) h = pairs-from (y ∷ z ∷ bs) at (omega arith)

pairs_next : (bs : List ℕ) (at : ℕ) → at + 3 ≤ length bs
    → pairs_of (drop at bs) ≡ record { first = get_or bs at 0; second = get_or bs (at + 1) 0; limit = get_or bs (at + 2) 0 } ∷ pairs_of (drop (at + 3) bs)
pairs_next bs at h =
    let p : suc at ≡ at + 1 = omega arith in
    let q : suc (suc at) ≡ at + 2 = omega arith in
    let r : suc (suc (suc at)) ≡ at + 3 = omega arith in
    pairs-from bs at (omega arith)
    ∙ (λ k. cons (record { first = get_or bs at 0; second = get_or bs (p k) 0; limit = get_or bs (q k) 0 }) (pairs_of (drop (r k) bs)))
  where
    cons : TapePair → List TapePair → List TapePair
    cons p ps = p ∷ ps

pairs_end : (bs : List ℕ) (at : ℕ) → length bs < at + 3 → pairs_of (drop at bs) ≡ []
unfolding pairs_of
pairs_end [] zero h = refl
pairs_end [] (suc at) h = refl
pairs_end (x ∷ []) zero h = refl
pairs_end (x ∷ y ∷ []) zero h = refl
pairs_end (x ∷ y ∷ z ∷ bs) zero h = absurd (omega arith)
pairs_end (x ∷ bs) (suc at) h = pairs_end bs at (omega arith)

-- ---- the loop over the pairs
module _ (n m : ℕ) (w : List ℕ) where
  -- no pair is left
  pub within_end : length w < 3 → true ≡ within n m (tapes_of (pairs_of w))
  within_end h = sym (ap (λ ps. within n m (tapes_of ps)) (pairs_end w 0 h))

  -- three bytes, and the others behind them
  module _ (p v : List ℕ) (e : w ≡ p ++ v) (l : length p ≡ 3) where
    here : within n m (tapes_of (pairs_of w)) ≡ and (and (is_tape n (get_or p 0 0)) (is_tape m (get_or p 1 0))) (within n m (tapes_of (pairs_of v)))
    unfolding pairs_of
    here = ap (λ bs. within n m (tapes_of (pairs_of bs))) e ∙ go p l
      where
        go : (p : List ℕ) → length p ≡ 3
            → within n m (tapes_of (pairs_of (p ++ v))) ≡ and (and (is_tape n (get_or p 0 0)) (is_tape m (get_or p 1 0))) (within n m (tapes_of (pairs_of v)))
        go (x ∷ y ∷ z ∷ []) h = refl
        go [] h = absurd (omega arith)
        go (x ∷ []) h = absurd (omega arith)
        go (x ∷ y ∷ []) h = absurd (omega arith)
        go (x ∷ y ∷ z ∷ a ∷ p) h = absurd (omega arith)

    pub within_first : false ≡ is_tape n (get_or p 0 0) → false ≡ within n m (tapes_of (pairs_of w))
    within_first f = sym (here ∙ rw (← f))

    pub within_second : true ≡ is_tape n (get_or p 0 0) → false ≡ is_tape m (get_or p 1 0) → false ≡ within n m (tapes_of (pairs_of w))
    within_second t f = sym (here ∙ rw (← t, ← f))

    pub within-next : true ≡ is_tape n (get_or p 0 0) → true ≡ is_tape m (get_or p 1 0) → within n m (tapes_of (pairs_of v)) ≡ within n m (tapes_of (pairs_of w))
    within-next t u = sym (here ∙ rw (← t, ← u))

-- ---- at most four pairs by value
-- read from the bytes
read_from : (n : ℕ) (bs : List ℕ) (at : ℕ) (l : List memory.Pair) → at + 3 * n ≤ length bs → length bs < at + 3 * n + 3 → n ≤ length l
    → ((k : ℕ) → k < n → get_or l k no_pair ≡ pair_at bs (at + 3 * k)) → map pair_as (take n l) ≡ pairs_of (drop at bs)
read_from zero bs at l h t m e = sym (pairs_end bs at (omega arith))
read_from (suc n) bs at [] h t m e = absurd (omega arith)
read_from (suc n) bs at (p ∷ l) h t m e =
    let p₀ : p ≡ pair_at bs at = e zero (omega arith) ∙ (let z : at + 3 * 0 ≡ at = omega arith in ap (pair_at bs) z) in
    ap₂ (λ (q : memory.Pair) (qs : List TapePair). pair_as q ∷ qs) p₀
    (read_from n bs (at + 3) l (omega arith) (omega arith) (omega arith)
    (λ k j. e (suc k) (omega arith) ∙ (let z : at + 3 * suc k ≡ at + 3 + 3 * k = omega arith in ap (pair_at bs) z)))
    ∙ sym (pairs_next bs at (omega arith))

-- the first four of the list, and how many it has
pub read_list : (bs : List ℕ) (a b c d : memory.Pair) → a ≡ pair_at bs 0 → b ≡ pair_at bs 3 → c ≡ pair_at bs 6 → d ≡ pair_at bs 9
    → FirstFour (pairs_of bs) (record { pairs = a ∷ b ∷ c ∷ d ∷ []; used = length bs / 3 })
read_list bs a b c d ea eb ec ed =
    let n = pairs_count bs in
    record {
      many = sym n;
      all_read = λ h. read_from (length bs / 3) bs 0 (a ∷ b ∷ c ∷ d ∷ []) (omega arith) (omega arith) (omega (arith, h, n)) (each (omega (arith, h, n)));
    }
  where
    each : length bs / 3 ≤ 4 → (k : ℕ) → k < length bs / 3 → get_or (a ∷ b ∷ c ∷ d ∷ []) k no_pair ≡ pair_at bs (0 + 3 * k)
    each h zero j = ea
    each h (suc zero) j = eb
    each h (suc (suc zero)) j = ec
    each h (suc (suc (suc zero))) j = ed
    each h (suc (suc (suc (suc k)))) j = absurd (omega arith)

-- one side of the pairs that are used: g is the first or the second tape
pub side : (g : Pair → ℕ) (u n : ℕ) (xs : List ℕ) (l : List memory.Pair) → length xs ≡ n → length l ≡ n
    → ((i : ℕ) → i < n → get_or xs i 0 ≡ g (tapes_as (get_or l i no_pair))) → take u xs ≡ map g (tapes_of (map pair_as (take u l)))
side g zero n xs l h k e = refl
side g (suc u) n [] [] h k e = refl
side g (suc u) n [] (p ∷ l) h k e = absurd (omega arith)
side g (suc u) n (x ∷ xs) [] h k e = absurd (omega arith)
side g (suc u) zero (x ∷ xs) (p ∷ l) h k e = absurd (omega arith)
side g (suc u) (suc n) (x ∷ xs) (p ∷ l) h k e =
    ap₂ (λ (y : ℕ) (ys : List ℕ). y ∷ ys) (e zero (omega arith)) (side g u n xs l (omega arith) (omega arith) (λ i j. e (suc i) (omega arith)))

-- ---- the tapes that pairs by value name
between : (n m : ℕ) (p : memory.Pair) → and (is_tape n p.first) (is_tape m p.second) ≡ true → Between n m p
between n m p e =
    let both = and_true _ _ e in
    let f = and_true _ _ both.0 in
    let s = and_true _ _ both.1 in
    record { first_from = leb-true _ _ f.0; first_to = leb-true _ _ f.1; second_from = leb-true _ _ s.0; second_to = leb-true _ _ s.1 }

each_between : (n m u h : ℕ) (l : List memory.Pair) → u ≤ length l → h < u → within n m (tapes_of (map pair_as (take u l))) ≡ true → Between n m (get_or l h no_pair)
each_between n m zero h l k j e = absurd (omega arith)
each_between n m (suc u) h [] k j e = absurd (omega arith)
each_between n m (suc u) zero (p ∷ l) k j e =
    between n m p (and_true (and (is_tape n p.first) (is_tape m p.second)) (within n m (tapes_of (map pair_as (take u l)))) e).0
each_between n m (suc u) (suc h) (p ∷ l) k j e =
    each_between n m u h l (omega arith) (omega arith) (and_true (and (is_tape n p.first) (is_tape m p.second)) (within n m (tapes_of (map pair_as (take u l)))) e).1

pub sided : (n m : ℕ) (ps : PairList) → length ps.pairs ≡ 4 → ps.used ≤ 4 → within n m (tapes_of (pairs_as ps)) ≡ true → Sided n m ps
sided n m ps l u e = record { used_fit = u; each = λ h j. each_between n m ps.used h ps.pairs (omega arith) j e }

-- pairs of one table
pub named-sided : (n : ℕ) (ps : PairList) → Sided n n ps → Named n ps
named-sided n ps s =
    record {
      used_fit = s.used_fit;
      each = λ h j. let b = s.each h j in record { first_from = b.first_from; first_to = b.first_to; second_from = b.second_from; second_to = b.second_to };
    }

-- ---- the second tapes moved
-- what a join's pairs are, where all tapes together fit a byte
pub movable : (n m : ℕ) (ps : PairList) → Sided n m ps → n + m ≤ 255 → Movable n ps
movable n m ps s w = record { used_fit = s.used_fit; each = λ h k. let t = (s.each h k).second_to in omega (arith, t) }

module _ (by : ℕ) (ps : PairList) (a b c d : memory.Pair) (u : ps.used ≤ 4) (ea : a ≡ moved_at by ps 0) (eb : b ≡ moved_at by ps 1) (ec : c ≡ moved_at by ps 2) (ed : d ≡ moved_at by ps 3) where
  moved_each : (h : ℕ) → h < ps.used
      → get_or (a ∷ b ∷ c ∷ d ∷ []) h no_pair ≡ record { first = (get_or ps.pairs h no_pair).first; second = by + (get_or ps.pairs h no_pair).second; limit = (get_or ps.pairs h no_pair).limit }
  moved_each zero k = ea ∙ rw (lt-ltb 0 ps.used k)
  moved_each (suc zero) k = eb ∙ rw (lt-ltb 1 ps.used k)
  moved_each (suc (suc zero)) k = ec ∙ rw (lt-ltb 2 ps.used k)
  moved_each (suc (suc (suc zero))) k = ed ∙ rw (lt-ltb 3 ps.used k)
  moved_each (suc (suc (suc (suc h)))) k = absurd (omega arith)

  moved-within : (m h : ℕ) → Sided by m ps → h < ps.used → Within (by + m) (get_or (a ∷ b ∷ c ∷ d ∷ []) h no_pair)
  moved-within m h s k =
      let w = s.each h k in
      let f = w.first_to in
      let o = w.second_from in
      let t = w.second_to in
      rw (moved_each h k) (record { first_from = w.first_from; first_to = omega (arith, f); second_from = omega (arith, o); second_to = omega (arith, t) })

  pub moved_is : length ps.pairs ≡ 4 → Moved by ps (record { pairs = a ∷ b ∷ c ∷ d ∷ []; used = ps.used })
  moved_is l =
      record {
        pairs = moved_front ps.used (a ∷ b ∷ c ∷ d ∷ []) ps.pairs u (omega arith) (λ h k. moved_each h k);
        tapes_named = λ m s. record { used_fit = u; each = λ h k. moved-within m h s k };
      }
    where
      -- so many of two lists, where each element of the first is that of the second moved
      moved_front : (n : ℕ) (xs ys : List memory.Pair) → n ≤ length xs → n ≤ length ys
          → ((h : ℕ) → h < n → get_or xs h no_pair ≡ record { first = (get_or ys h no_pair).first; second = by + (get_or ys h no_pair).second; limit = (get_or ys h no_pair).limit })
          → map pair_as (take n xs) ≡ behind by (map pair_as (take n ys))
      moved_front zero xs ys h k e = refl
      moved_front (suc n) [] ys h k e = absurd (omega arith)
      moved_front (suc n) (x ∷ xs) [] h k e = absurd (omega arith)
      moved_front (suc n) (x ∷ xs) (y ∷ ys) h k e =
          ap₂ (λ (p : memory.Pair) (r : List TapePair). pair_as p ∷ r) (e zero (omega arith)) (moved_front n xs ys (omega arith) (omega arith) (λ i j. e (suc i) (omega arith)))
