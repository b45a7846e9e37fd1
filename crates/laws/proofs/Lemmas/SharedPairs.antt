-- Pairs shared out to two lists, in any order: agreement and dropping by all pairs at once, and by the first and then
-- the later ones.
use mathlib.Core.Path.{◌≡◌, refl, sym, ◌∙◌, ap, fun_ext, subst}
use mathlib.Core.Logic.{◌↔◌, inl, inr, ⊎_elim}
use mathlib.Core.Bool.{Bool, false, not}
use mathlib.Core.List.{List, [], ◌++◌, map}
use Prim.Native.Nat.{ℕ, zero, suc, ◌+◌, ◌-◌, ◌<◌}
use native.Mathlib.Nat.{suc_inj}
use native.Mathlib.Omega.{arith}
use lib.ListN.{length, get_or}
use lib.Dec.{T, T_not}
use Rattle.automata.specs.Lists.{◌∈◌, or}
use Rattle.automata.specs.OrderedSum.{OrderedSum, tested}
use Rattle.automata.specs.Automaton.{Tuple}
use Rattle.automata.specs.TapePair.{Pair, TapePair, tapes_of}
use Rattle.automata.specs.Tapes.{empty_tuple, Agree, seconds, moved, joined, drop_at, place_after, tape_after}
use Rattle.automata.specs.IntersectCall.{distinct}
use Rattle.automata.specs.Join.{within}
use Rattle.laws.specs.JoinTapes.{SharedOut, later_on}
use Rattle.laws.specs.JoinLaws.{MeetWritten, SumsOf}
use Rattle.automata.proofs.ListFacts
use Rattle.automata.proofs.TestFacts.{T_false, T_same, T_or-left, T_or-right, or_T}
use Rattle.automata.proofs.TapeFacts.{length_blank, length_drop_at, get_d_drop_at, drop_at-twice, place_after_injective}
use Rattle.automata.proofs.PairFacts.{agree_∈, ∈_agree, within_∈, agree-behind, drop_behind, distinct_eq, seconds_∈, ∈_seconds, tapes_placed}
use Rattle.laws.proofs.Lemmas.ExchangedTapes.{joined-width}

module _ (ps first : List Pair) (later_pairs : List TapePair) (h : SharedOut ps first (tapes_of later_pairs)) where
  -- the later pairs, whatever their limits
  abbrev later : List Pair
  later = tapes_of later_pairs

  -- and at their places behind n tapes
  abbrev onward : ℕ → List Pair
  onward n = tapes_of (later_on n first later_pairs)

  -- all pairs agree where the first and the later ones do
  pub agree_shared : (u v : Tuple) → Agree ps u v ↔ (Agree first u v × Agree later u v)
  agree_shared u v = (
    λ a. (∈_agree first u v (λ p m. agree_∈ ps u v p a ((h.all p).1 (inl m))), ∈_agree later u v (λ p m. agree_∈ ps u v p a ((h.all p).1 (inr m)))),
    λ (a, b). ∈_agree ps u v (λ p m. ⊎_elim (agree_∈ first u v p a) (agree_∈ later u v p b) ((h.all p).0 m)),
  )

  module _ (n k : ℕ) (r : T (within n k ps)) (d : T (distinct (map (λ p. p.second) ps))) where
    counted : (p : Pair) → p ∈ ps → zero < p.second
    counted p m = (within_∈ n k ps r p m).2

    -- the second tape of a later pair is not dropped with the first ones
    left : (p : Pair) → p ∈ later → seconds first (p.second - 1) ≡ false
    left p m = T_false (seconds first (p.second - 1)) (λ t.
        let (q, i, e) = seconds_∈ first (p.second - 1) t in
        let c = counted p ((h.all p).1 (inr m)) in
        let same : q.second ≡ p.second = omega arith in
        h.apart p (subst (λ q. q ∈ first) (distinct_eq ps q p d ((h.all q).1 (inl i)) ((h.all p).1 (inr m)) same) i) m)

    abbrev later_set : ℕ → Bool
    later_set = seconds (moved (tape_after (seconds first)) later)

    one_set : (j : ℕ) → or (seconds first j) (later_set (place_after (seconds first) j)) ≡ seconds ps j
    one_set j = T_same (or (seconds first j) (later_set (place_after (seconds first) j))) (seconds ps j)
        (λ t. ⊎_elim at_first (λ u. ⊎_elim at_first (λ l. at_later l u) (tested (seconds first j)))
        (or_T (seconds first j) (later_set (place_after (seconds first) j)) t))
        (λ t. let (p, m, e) = seconds_∈ ps j t in ⊎_elim
        (λ i. T_or-left (seconds first j) (later_set (place_after (seconds first) j)) (∈_seconds first j p i e))
        (λ i. T_or-right (seconds first j) (later_set (place_after (seconds first) j))
        (∈_seconds (moved (tape_after (seconds first)) later) (place_after (seconds first) j) (move p) (ListFacts.map_keeps move later i)
        (let place : p.second - 1 ≡ j = omega arith in ap (λ j. suc (place_after (seconds first) j)) place)))
        ((h.all p).0 m))
      where
        move : Pair → Pair
        move p = record { first = p.first; second = tape_after (seconds first) p.second }

        at_first : T (seconds first j) → T (seconds ps j)
        at_first t = let (p, m, e) = seconds_∈ first j t in ∈_seconds ps j p ((h.all p).1 (inl m)) e

        at_later : T (not (seconds first j)) → T (later_set (place_after (seconds first) j)) → T (seconds ps j)
        at_later l t =
            let (q, i, e) = seconds_∈ (moved (tape_after (seconds first)) later) (place_after (seconds first) j) t in
            let (p, m, x) = ListFacts.map_members move later i in
            let c = counted p ((h.all p).1 (inr m)) in
            let z : tape_after (seconds first) p.second ≡ suc (place_after (seconds first) j) = sym (ap (λ z. z.second) x) ∙ e in
            let place = place_after_injective (seconds first) (p.second - 1) j (left p m) (T_false (seconds first j) (T_not (seconds first j) l)) (suc_inj z) in
            ∈_seconds ps j p ((h.all p).1 (inr m)) (omega arith)

    drop_shared : (v : Tuple) → drop_at later_set (drop_at (seconds first) v) ≡ drop_at (seconds ps) v
    drop_shared v = drop_at-twice (seconds first) later_set v ∙ ap (λ e. drop_at e v) (fun_ext one_set)

    -- the tuple in which u and v meet by the first pairs agrees on the later ones where u and v do
    agree-later : (u v : Tuple) → length u ≡ n
        → Agree (onward n) (joined first u v) (joined first u v) ↔ Agree later u v
    agree-later u v l = subst (λ (z : List Pair). Agree z (joined first u v) (joined first u v) ↔ Agree later u v)
        (sym (tapes_placed (λ j. n + tape_after (seconds first) j) later_pairs)) (agree-behind (tape_after (seconds first)) n later u v (drop_at (seconds first) v) l
        (λ p m. let (x, y, z, _) = within_∈ n k ps r p ((h.all p).1 (inr m)) in (
          x,
          y,
          omega arith,
          (let place : tape_after (seconds first) p.second - 1 ≡ place_after (seconds first) (p.second - 1) = omega arith in
              ap (λ k. get_or (drop_at (seconds first) v) k []) place ∙ get_d_drop_at (seconds first) v (p.second - 1) [] (left p m)),
        )))

    drop_later : (u v : Tuple) → length u ≡ n → drop_at (seconds (onward n)) (joined first u v) ≡ joined ps u v
    drop_later u v l = ap (λ (z : List Pair). drop_at (seconds z) (joined first u v)) (tapes_placed (λ j. n + tape_after (seconds first) j) later_pairs)
        ∙ drop_behind (tape_after (seconds first)) n later u (drop_at (seconds first) v) l (λ p m. omega arith)
        ∙ ap (λ x. u ++ x) (drop_shared v)

    -- and as many tapes are left
    pub width_shared : place_after (seconds (onward n)) (n + place_after (seconds first) k) ≡ n + place_after (seconds ps) k
    width_shared =
        let u = empty_tuple n in
        let v = empty_tuple k in
        let width : (qs : List Pair) → length (joined qs u v) ≡ n + place_after (seconds qs) k = λ qs. joined-width qs u v n k (length_blank n) (length_blank k) in
        sym (length_drop_at (seconds (onward n)) (joined first u v) ∙ ap (place_after (seconds (onward n))) (width first))
        ∙ ap length (drop_later u v (length_blank n)) ∙ width ps

    -- what meets by all pairs meets by the first ones, agrees on the later ones, and is left when their second tapes
    -- are dropped
    module _ (S : OrderedSum) where
      open S use {W}

      pub meet_shared : (X Y : Tuple → W → Type 0) → ((u : Tuple) (a : W) → X u a → length u ≡ n) → (t : Tuple) (w : W)
          → SumsOf S X Y (λ u v. MeetWritten ps u v t) w
          ↔ ((s : Tuple) × (drop_at (seconds (onward n)) s ≡ t) × SumsOf S X Y (λ u v. MeetWritten first u v s) w × Agree (onward n) s s)
      meet_shared X Y width t w = (
        λ (u, v, a, b, x, y, (g, et), ew).
            let l = width u a x in
            let (g₁, g₂) = (agree_shared u v).0 g in
            (joined first u v, drop_later u v l ∙ et, (u, v, a, b, x, y, (g₁, refl), ew), (agree-later u v l).1 g₂),
        λ (s, e, (u, v, a, b, x, y, (g₁, et), ew), g).
            let l = width u a x in (
              u,
              v,
              a,
              b,
              x,
              y,
              (
                (agree_shared u v).1 (g₁, (agree-later u v l).0 (subst (λ s. Agree (onward n) s s) (sym et) g)),
                sym (drop_later u v l) ∙ ap (drop_at (seconds (onward n))) et ∙ e,
              ),
              ew,
            ),
      )
