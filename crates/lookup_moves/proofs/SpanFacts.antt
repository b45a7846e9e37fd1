-- The combinations in strings of these lengths, from what each call gave.
use mathlib.Core.Path.{◌≡◌, refl, sym, ap, subst, ◌∙◌}
use mathlib.Core.List.{List, [], ◌∷◌}
use Prim.Native.Nat.{ℕ, suc, ◌+◌, ◌*◌, ◌^◌, ◌≤◌, ◌<◌}
use native.Mathlib.Decide.{ℕ_discrete}
use native.Mathlib.Nat.{mul-le-mul_right, pow-suc}
use native.Mathlib.Omega.{arith}
use lib.ListN.{length, get_or, set, drop, replicate, length-set, drop_of_length-le}
use lib.Seq.{drop-cons, get_or-set_same, get_or-set_other}
use Rattle.automata.specs.Limits.{max_string}
use Rattle.lookup_tuple.specs.declared.Strings.{Strings}
use Rattle.lookup_moves.specs.declared.spot.Spot.{Spot}
use Rattle.lookup_moves.specs.declared.spot.Spans.{Spans}
use Rattle.lookup_moves.specs.Spots.{span_of, eight_of, digit, spot_of}

span_step : (xs : List ℕ) (k v w : ℕ) → k < length xs → v ≡ span_of (drop (suc k) xs) → w ≡ (get_or xs k 0 + 1) * v → w ≡ span_of (drop k xs)
unfolding span_of
span_step xs k v w h e f = f ∙ ap (λ (x : ℕ). (get_or xs k 0 + 1) * x) e ∙ ap span_of (sym (drop-cons xs k 0 h))

span_end : (xs : List ℕ) → length xs ≡ 8 → 1 ≡ span_of (drop 8 xs)
unfolding span_of
span_end xs h = ap span_of (sym (drop_of_length-le xs {i = 8} (omega (arith, h))))

-- the strings from one on: the combinations behind each, and in all of them, few enough whatever stands before
pub record SpannedFrom (lengths : List ℕ) (h : ℕ) (spans : List ℕ) (all : ℕ) : Type 0 where
  pub eight : length spans ≡ 8
  pub each : (j : ℕ) → h ≤ j → j < 8 → get_or spans j 0 ≡ span_of (drop (suc j) lengths)
  pub all_is : all ≡ span_of (drop h lengths)
  pub small : all * 65 ^ h ≤ 318644812890625

module _ (xs : List ℕ) (eight : length xs ≡ 8) where
  -- none yet
  pub spanned_none : SpannedFrom xs 8 (replicate 8 0) 1
  spanned_none = record { eight = refl; each = λ j le lt. absurd (omega arith); all_is = span_end xs eight; small = omega arith }

  module _ (h rest : ℕ) (spans : List ℕ) (all : ℕ) (d : h ≡ suc rest) (in_eight : rest < 8) (f : SpannedFrom xs h spans all) where
    -- there are few with one string more
    span_small : get_or xs rest 0 ≤ max_string → (get_or xs rest 0 + 1) * all * 65 ^ rest ≤ 318644812890625
    span_small short = few (get_or xs rest 0 + 1) all (65 ^ rest) (omega (arith, short)) (subst (λ (n : ℕ). all * n ≤ 318644812890625) (ap (λ (k : ℕ). 65 ^ k) d ∙ pow-suc 65 rest) f.small)
      where
        few : (n a p : ℕ) → n ≤ 65 → a * (p * 65) ≤ 318644812890625 → n * a * p ≤ 318644812890625
        few n a p le at_most = let q : n * (a * p) ≤ 65 * (a * p) = mul-le-mul_right (a * p) le in omega (arith, q, at_most)

    -- and what is known of it
    pub spanned_next : get_or xs rest 0 ≤ max_string → SpannedFrom xs rest (set spans rest all) (all * (get_or xs rest 0 + 1))
    spanned_next short = record {
      eight = length-set spans rest all ∙ f.eight;
      each = λ j le lt. one j le lt (ℕ_discrete j rest);
      all_is = span_step xs rest all (all * (get_or xs rest 0 + 1)) (omega (arith, eight)) (f.all_is ∙ ap (λ (k : ℕ). span_of (drop k xs)) d) (omega arith);
      small = omega (arith, span_small short);
    }
      where
        one : (j : ℕ) → rest ≤ j → j < 8 → Dec (j ≡ rest) → get_or (set spans rest all) j 0 ≡ span_of (drop (suc j) xs)
        one j le lt (yes same) =
            ap (λ (k : ℕ). get_or (set spans rest all) k 0) same ∙ get_or-set_same spans rest all 0 (omega (arith, f.eight)) ∙ f.all_is
            ∙ ap (λ (k : ℕ). span_of (drop k xs)) (d ∙ ap suc (sym same))
        one j le lt (no other) = get_or-set_other spans rest j all 0 other ∙ f.each j (omega (arith, d)) lt

-- eight values, one by one
eight_are : (f : ℕ → ℕ) (xs : List ℕ) → length xs ≡ 8 → ((j : ℕ) → j < 8 → get_or xs j 0 ≡ f j) → xs ≡ eight_of f
eight_are f (a ∷ b ∷ c ∷ d ∷ e ∷ g ∷ h ∷ i ∷ []) l p =
    rw (p 0 (omega arith), p 1 (omega arith), p 2 (omega arith), p 3 (omega arith), p 4 (omega arith), p 5 (omega arith), p 6 (omega arith), p 7 (omega arith))
eight_are f [] l p = absurd (omega arith)
eight_are f (a ∷ []) l p = absurd (omega arith)
eight_are f (a ∷ b ∷ []) l p = absurd (omega arith)
eight_are f (a ∷ b ∷ c ∷ []) l p = absurd (omega arith)
eight_are f (a ∷ b ∷ c ∷ d ∷ []) l p = absurd (omega arith)
eight_are f (a ∷ b ∷ c ∷ d ∷ e ∷ []) l p = absurd (omega arith)
eight_are f (a ∷ b ∷ c ∷ d ∷ e ∷ g ∷ []) l p = absurd (omega arith)
eight_are f (a ∷ b ∷ c ∷ d ∷ e ∷ g ∷ h ∷ []) l p = absurd (omega arith)
eight_are f (a ∷ b ∷ c ∷ d ∷ e ∷ g ∷ h ∷ i ∷ k ∷ xs) l p = absurd (omega arith)

-- the first so many strings at the positions of a number, the others at their starts
pub record SpotTo (s : Strings) (spans : Spans) (number h : ℕ) (starts positions : List ℕ) : Type 0 where
  pub eight_starts : length starts ≡ 8
  pub eight_positions : length positions ≡ 8
  pub starts_are : (j : ℕ) → j < h → get_or starts j 0 ≡ get_or s.starts j 0 + digit s spans number j
  pub positions_are : (j : ℕ) → j < h → get_or positions j 0 ≡ digit s spans number j
  pub starts_left : (j : ℕ) → h ≤ j → get_or starts j 0 ≡ get_or s.starts j 0

module _ (s : Strings) (spans : Spans) (number : ℕ) where
  -- all
  pub spot_is : (h : ℕ) (starts positions : List ℕ) → 8 ≤ h → SpotTo s spans number h starts positions
      → ◌≡◌ {A = Spot} (record { starts = starts; positions = positions; spans = spans.spans; number = number; all = spans.all }) (spot_of s spans number)
  unfolding spot_of
  spot_is h starts positions up f =
      let e : starts ≡ eight_of (λ j. get_or s.starts j 0 + digit s spans number j) = eight_are (λ j. get_or s.starts j 0 + digit s spans number j) starts f.eight_starts (λ j lt. f.starts_are j (omega arith)) in
      let g : positions ≡ eight_of (λ j. digit s spans number j) = eight_are (λ j. digit s spans number j) positions f.eight_positions (λ j lt. f.positions_are j (omega arith)) in
      λ i. record { starts = e i; positions = g i; spans = spans.spans; number = number; all = spans.all }
