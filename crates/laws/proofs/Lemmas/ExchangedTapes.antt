-- The tapes of a join brought into the order of the exchanged join: the tuple in which u and v meet becomes one that
-- falls together with the one in which v and u meet.
use mathlib.Core.Path.{◌≡◌, refl, sym, ◌∙◌, ap, ap₂}
use mathlib.Core.Logic.{◌↔◌}
use mathlib.Core.Bool.{Bool, true, false}
use mathlib.Core.List.{List, [], ◌∷◌, ◌++◌, map}
use Prim.Native.Nat.{ℕ, suc, ◌+◌, ◌-◌, ◌<◌}
use native.Mathlib.Omega.{arith}
use lib.ListN.{length, get_or, get_or-append, length-append, length-map}
use lib.Seq.{get_or-append-add}
use lib.Dec.{T, eqb, eqb→eq}
use Rattle.automata.specs.Lists.{here, there, ◌∈◌, if, or}
use Rattle.automata.specs.OrderedSum.{OrderedSum}
use Rattle.automata.specs.Automaton.{Symbol, Tuple}
use Rattle.automata.specs.TapePair.{Pair}
use Rattle.automata.specs.Tapes.{read_tuple, ReadAlike, Agree, seconds, turned, joined, drop_at, place_after, chosen, tape_after}
use Rattle.automata.specs.IntersectCall.{distinct}
use Rattle.automata.specs.Projection.{range}
use Rattle.automata.specs.Join.{within}
use Rattle.laws.specs.JoinTapes.{kept_as, exchanged_tapes}
use Rattle.laws.specs.JoinLaws.{Meet, SumsOf}
use Rattle.automata.proofs.ListFacts
use Rattle.automata.proofs.TestFacts.{true_T}
use Rattle.automata.proofs.TapeFacts.{map_drop_at, length_drop_at, get_d_drop_at}
use Rattle.automata.proofs.ReadingFacts.{read_at, read_length, read_chosen, chosen_alike}
use Rattle.automata.proofs.PairFacts.{agree_∈, within_∈, agree-turned, read_joined, joined_alike, joined_injective}
use Rattle.automata.proofs.Meeting.{meeting}
use Rattle.laws.proofs.Lemmas.Ranges.{length_range}
use Rattle.laws.proofs.Lemmas.Sorted.{map_map}

-- a list from what stands at its places
listed : {A : Type 0} (z : A) (f : ℕ → A) (k : ℕ) (v : List A) → ((i : ℕ) → i < length v → f (suc (k + i)) ≡ get_or v i z) → map f (range (suc k) (length v)) ≡ v
listed z f k [] h = refl
listed z f k (x ∷ v) h =
    let first : suc k ≡ suc (k + 0) = omega arith in
    ap₂ (λ y ys. y ∷ ys) (ap f first ∙ h 0 (omega arith))
    (listed z f (suc k) v (λ i l. let next : suc (suc k + i) ≡ suc (k + suc i) = omega arith in ap f next ∙ h (suc i) (omega arith)))

-- as many tapes as both have, without those dropped
pub joined-width : (ps : List Pair) (u v : Tuple) (n m : ℕ) → length u ≡ n → length v ≡ m → length (joined ps u v) ≡ n + place_after (seconds ps) m
joined-width ps u v n m lu lv =
    length-append u (drop_at (seconds ps) v) ∙ ap₂ (λ x y. x + y) lu (length_drop_at (seconds ps) v ∙ ap (place_after (seconds ps)) lv)

-- the strings of u and of v are equal on every pair
abbrev Equal : List Pair → Tuple → Tuple → Type 0
Equal ps u v = (p : Pair) → p ∈ ps → get_or u (p.first - 1) [] ≡ get_or v (p.second - 1) []

module _ (n m : ℕ) (ps : List Pair) (r : T (within n m ps)) where
  -- tape i + 1 of the second table stands in the join where it is kept
  kept_at : (u v : Tuple) → length u ≡ n → Equal ps u v → (i : ℕ) (qs : List Pair) → ((p : Pair) → p ∈ qs → p ∈ ps) → seconds ps i ≡ seconds qs i
      → get_or (joined ps u v) (kept_as n ps qs (suc i) - 1) [] ≡ get_or v i []
  kept_at u v l g i [] h e =
      let back : suc i - 1 ≡ i = omega arith in
      let same : place_after (seconds ps) (suc i - 1) ≡ place_after (seconds ps) i = ap (place_after (seconds ps)) back in
      let place : n + tape_after (seconds ps) (suc i) - 1 ≡ length u + place_after (seconds ps) i = omega arith in
      ap (λ k. get_or (joined ps u v) k []) place ∙ get_or-append-add u (drop_at (seconds ps) v) (place_after (seconds ps) i) [] ∙ get_d_drop_at (seconds ps) v i [] e
  kept_at u v l g i (q ∷ qs) h e = go (eqb q.second (suc i)) refl (kept_at u v l g i qs (λ p m. h p (there m))) e
    where
      go : (b : Bool) → eqb q.second (suc i) ≡ b
          → (seconds ps i ≡ seconds qs i → get_or (joined ps u v) (kept_as n ps qs (suc i) - 1) [] ≡ get_or v i []) → seconds ps i ≡ or b (seconds qs i)
          → get_or (joined ps u v) (if b q.first (kept_as n ps qs (suc i)) - 1) [] ≡ get_or v i []
      go true x rest e =
          let (a, b, _, _) = within_∈ n m ps r q (h q (here refl)) in
          let y : q.second ≡ suc i = eqb→eq q.second (suc i) (true_T (eqb q.second (suc i)) x) in
          let place : q.second - 1 ≡ i = omega arith in
          get_or-append u (drop_at (seconds ps) v) [] (q.first - 1) (omega arith) ∙ g q (h q (here refl)) ∙ ap (λ k. get_or v k []) place
      go false x rest e = rest e

  -- the tuple of the exchanged join, of strings that are equal
  equal_tuple : (u v : Tuple) → length u ≡ n → length v ≡ m → Equal ps u v → chosen (exchanged_tapes n m ps) (joined ps u v) ≡ joined (turned ps) v u
  equal_tuple u v lu lv g =
      let at : ℕ → List Symbol = λ j. get_or (joined ps u v) (j - 1) [] in
      ListFacts.map_append at (map (kept_as n ps ps) (range 1 m)) (drop_at (seconds (turned ps)) (range 1 n))
      ∙ ap₂ (λ x y. x ++ y)
      (map_map at (kept_as n ps ps) (range 1 m)
      ∙ ap (λ k. map (λ j. at (kept_as n ps ps j)) (range 1 k)) (sym lv)
      ∙ listed [] (λ j. at (kept_as n ps ps j)) 0 v (λ i l. let s : suc (0 + i) ≡ suc i = omega arith in ap (λ j. at (kept_as n ps ps j)) s ∙ kept_at u v lu g i ps (λ p m. m) refl))
      (map_drop_at at (seconds (turned ps)) (range 1 n)
      ∙ ap (drop_at (seconds (turned ps)))
      (ap (λ k. map at (range 1 k)) (sym lu)
      ∙ listed [] at 0 u (λ i l. let s : suc (0 + i) - 1 ≡ i = omega arith in ap (λ k. get_or (joined ps u v) k []) s ∙ get_or-append u (drop_at (seconds ps) v) [] i l)))

  -- and of strings that agree: it falls together with the tuple in which v and u meet
  pub exchanged-tuple : (u v : Tuple) → length u ≡ n → length v ≡ m → Agree ps u v
      → ReadAlike (chosen (exchanged_tapes n m ps) (joined ps u v)) (joined (turned ps) v u)
  exchanged-tuple u v lu lv g =
      read_chosen (exchanged_tapes n m ps) (joined ps u v)
      ∙ ap (chosen (exchanged_tapes n m ps)) (read_joined ps u v)
      ∙ equal_tuple (read_tuple u) (read_tuple v) (read_length u ∙ lu) (read_length v ∙ lv)
      (λ p i. read_at u (p.first - 1) ∙ agree_∈ ps u v p g i ∙ sym (read_at v (p.second - 1)))
      ∙ sym (read_joined (turned ps) v u)

  -- so many tapes
  pub exchanged-width : length (exchanged_tapes n m ps) ≡ m + place_after (seconds (turned ps)) n
  exchanged-width =
      length-append (map (kept_as n ps ps) (range 1 m)) (drop_at (seconds (turned ps)) (range 1 n))
      ∙ ap₂ (λ x y. x + y) (length-map (range 1 m) (kept_as n ps ps) ∙ length_range 1 m)
      (length_drop_at (seconds (turned ps)) (range 1 n) ∙ ap (place_after (seconds (turned ps))) (length_range 1 n))

  -- every tuple of the exchanged join falls together with one of the join in the other order
  pub exchanged_back : T (within m n (turned ps)) → T (distinct (map (λ p. p.second) (turned ps))) → (s : Tuple)
      → length s ≡ m + place_after (seconds (turned ps)) n
      → (t : Tuple) × (length t ≡ n + place_after (seconds ps) m) × ReadAlike (chosen (exchanged_tapes n m ps) t) s
  exchanged_back r' d' s ls =
      let (v, u, lv, lu, g, e) = meeting (turned ps) m n r' d' s ls in (
        joined ps u v,
        joined-width ps u v n m lu lv,
        exchanged-tuple u v lu lv ((agree-turned ps u v).0 g) ∙ ap read_tuple e,
      )

  -- u and v meet in t where v and u meet in t with its tapes in the other order
  meet_turned : T (distinct (map (λ p. p.second) ps)) → (u v : Tuple) → length u ≡ n → length v ≡ m → (t : Tuple) → length t ≡ n + place_after (seconds ps) m
      → Meet ps u v t ↔ Meet (turned ps) v u (chosen (exchanged_tapes n m ps) t)
  meet_turned d u v lu lv t lt = (
    λ (g, e). ((agree-turned ps u v).1 g, sym (exchanged-tuple u v lu lv g) ∙ chosen_alike (exchanged_tapes n m ps) (joined ps u v) t e),
    λ (g', e').
        let (u₀, v₀, lu₀, lv₀, g₀, e₀) = meeting ps n m r d t lt in
        let (p, q) = joined_injective (turned ps) v u v₀ u₀ (lv ∙ sym lv₀) (lu ∙ sym lu₀) g' ((agree-turned ps u₀ v₀).1 g₀)
        (e' ∙ ap (λ t. read_tuple (chosen (exchanged_tapes n m ps) t)) (sym e₀) ∙ exchanged-tuple u₀ v₀ lu₀ lv₀ g₀) in
        ((agree-turned ps u v).0 g', joined_alike ps u v u₀ v₀ q p ∙ ap read_tuple e₀),
  )

  module _ (S : OrderedSum) (d : T (distinct (map (λ p. p.second) ps))) where
    open S use {W, ⊕_comm}

    -- the sums over all that meet in t are those over all that meet the other way round
    pub sums_exchanged : (X Y : Tuple → W → Type 0) → ((u : Tuple) (a : W) → X u a → length u ≡ n) → ((v : Tuple) (b : W) → Y v b → length v ≡ m)
        → (t : Tuple) → length t ≡ n + place_after (seconds ps) m → (w : W)
        → SumsOf S X Y (λ u v. Meet ps u v t) w ↔ SumsOf S Y X (λ v u. Meet (turned ps) v u (chosen (exchanged_tapes n m ps) t)) w
    sums_exchanged X Y wX wY t lt w = (
      λ (u, v, a, b, x, y, z, e). (v, u, b, a, y, x, (meet_turned d u v (wX u a x) (wY v b y) t lt).0 z, ⊕_comm b a ∙ e),
      λ (v, u, b, a, y, x, z, e). (u, v, a, b, x, y, (meet_turned d u v (wX u a x) (wY v b y) t lt).1 z, ⊕_comm a b ∙ e),
    )
