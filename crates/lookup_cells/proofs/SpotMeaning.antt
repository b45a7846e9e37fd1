-- The combination of a number: its positions, and the symbols of the strings before them.
use mathlib.Core.Path.{◌≡◌, refl, sym, ap, ap₂, subst, ◌∙◌}
use mathlib.Core.List.{List, [], ◌∷◌}
use Prim.Native.Nat.{ℕ, zero, suc, ◌+◌, ◌-◌, ◌*◌, ◌/◌, ◌%◌, ◌^◌, ◌≤◌, ◌<◌}
use native.Mathlib.Nat.{mod-lt, mod-one, mod-eq_of_lt, mul-le-mul, mul_comm, pow-suc}
use native.Mathlib.Decide.{dec_le}
use native.Mathlib.Omega.{arith}
use lib.Arith.{mod-mul}
use lib.ListN.{length, get_or, drop, length-drop, get_or-eq_default}
use lib.Seq.{get_or-drop}
use Rattle.automata.specs.Automaton.{Tuple}
use Rattle.automata.specs.Calls.Work.{combinations}
use Rattle.automata.specs.Cells.{Positions, place}
use Rattle.automata.specs.Limits.{max_string}
use Rattle.table.specs.Region.{part}
use Rattle.table.proofs.PartFacts.{part-part}
use Rattle.lookup_tuple.specs.declared.Strings.{Strings}
use Rattle.lookup_tuple.specs.Strings.{Stands}
use Rattle.lookup_moves.specs.declared.spot.Spans.{Spans}
use Rattle.lookup_moves.specs.Spots.{span_of, Spanned, digit, eight_of, spot_of, Positive}
use Rattle.lookup_cells.proofs.MoveMeaning.{combinations_positive}
use Rattle.lookup_cells.proofs.PushMeaning.{AtSpot}

-- ---- positions by their number

-- the positions of a number
abbrev pub digits : ℕ → Tuple → List ℕ
digits b [] = []
digits b (s ∷ t) = (b / combinations t % suc (length s)) ∷ digits b t

pub positions_digits : (b : ℕ) (t : Tuple) → Positions (digits b t) t
positions_digits b [] = tt
positions_digits b (s ∷ t) = (omega (arith, mod-lt (b / combinations t) {m = suc (length s)} (omega arith)), positions_digits b t)

place_mod : (b : ℕ) (t : Tuple) → place (digits b t) t ≡ b % combinations t
place_mod b [] = sym (mod-one b)
place_mod b (s ∷ t) =
    ap (λ (x : ℕ). b / combinations t % suc (length s) * combinations t + x) (place_mod b t)
    ∙ sym (mod-mul b {m = suc (length s)} {c = combinations t} (omega arith) (combinations_positive t))

pub place_digits : (b : ℕ) (t : Tuple) → b < combinations t → place (digits b t) t ≡ b
place_digits b t h = place_mod b t ∙ mod-eq_of_lt h

get_d_digits : (b : ℕ) (t : Tuple) (j : ℕ) → j < length t → get_or (digits b t) j 0 ≡ b / combinations (drop (suc j) t) % suc (length (get_or t j []))
get_d_digits b [] j h = absurd (omega arith)
get_d_digits b (s ∷ t) zero h = refl
get_d_digits b (s ∷ t) (suc j) h = get_d_digits b t j (omega arith)

digits_le : (b : ℕ) (t : Tuple) (j : ℕ) → j < length t → get_or (digits b t) j 0 ≤ length (get_or t j [])
digits_le b t j h =
    omega (arith, get_d_digits b t j h, mod-lt (b / combinations (drop (suc j) t)) {m = suc (length (get_or t j []))} (omega arith))

-- ---- spans

span_combinations : (xs : List ℕ) (t : Tuple) → length t ≤ length xs → ((h : ℕ) → h < length t → get_or xs h 0 ≡ length (get_or t h []))
    → ((h : ℕ) → length t ≤ h → get_or xs h 0 ≡ 0) → span_of xs ≡ combinations t
unfolding span_of
span_combinations [] [] le each past = refl
span_combinations [] (s ∷ t) le each past = absurd (omega arith)
span_combinations (x ∷ xs) [] le each past =
    let i : span_of xs ≡ 1 = span_combinations xs [] (omega arith) (λ h lt. absurd (omega arith)) (λ h l. past (suc h) (omega arith)) in
    let z : x ≡ 0 = past 0 (omega arith) in
    rw (z, i)
span_combinations (x ∷ xs) (s ∷ t) le each past =
    let i : span_of xs ≡ combinations t = span_combinations xs t (omega arith) (λ h lt. each (suc h) (omega arith)) (λ h l. past (suc h) (omega arith)) in
    let z : x + 1 ≡ suc (length s) = omega (arith, each 0 (omega arith)) in
    ap₂ (λ (a b : ℕ). a * b) z i

span_le : (xs : List ℕ) → ((h : ℕ) → get_or xs h 0 ≤ max_string) → span_of xs ≤ 65 ^ length xs
unfolding span_of
span_le [] h = omega arith
span_le (x ∷ xs) h =
    let i = span_le xs (λ k. h (suc k)) in
    let k : x + 1 ≤ 65 = omega (arith, h 0) in
    omega (arith, mul-le-mul k i, pow-suc 65 (length xs), mul_comm 65 (65 ^ length xs))

span_drop : (k : ℕ) (xs : List ℕ) → span_of (drop k xs) ≤ span_of xs
unfolding span_of
span_drop zero xs = omega arith
span_drop (suc k) [] = omega arith
span_drop (suc k) (x ∷ xs) =
    let one : 1 ≤ x + 1 = omega arith in
    let same : span_of xs ≤ span_of xs = omega arith in
    omega (arith, span_drop k xs, mul-le-mul one same)

-- ---- the combination

eight_at : (f : ℕ → ℕ) (h : ℕ) → h < 8 → get_or (eight_of f) h 0 ≡ f h
eight_at f zero lt = refl
eight_at f (suc zero) lt = refl
eight_at f (suc (suc zero)) lt = refl
eight_at f (suc (suc (suc zero))) lt = refl
eight_at f (suc (suc (suc (suc zero)))) lt = refl
eight_at f (suc (suc (suc (suc (suc zero))))) lt = refl
eight_at f (suc (suc (suc (suc (suc (suc zero)))))) lt = refl
eight_at f (suc (suc (suc (suc (suc (suc (suc zero))))))) lt = refl
eight_at f (suc (suc (suc (suc (suc (suc (suc (suc h)))))))) lt = absurd (omega arith)

module _ (text : List ℕ) (t : Tuple) (s : Strings) (st : Stands text t s) (spans : Spans) (sp : Spanned s.lengths spans) where
  pub span_at : (h : ℕ) → h < 8 → get_or spans.spans h 0 ≡ combinations (drop (suc h) t)
  span_at h lt = sp.each h lt ∙ span_combinations (drop (suc h) s.lengths) (drop (suc h) t)
      (omega (arith, length-drop (suc h) s.lengths, length-drop (suc h) t, st.few, st.eight_lengths))
      (λ j l. get_or-drop (suc h) s.lengths j 0 ∙ st.length_is (suc h + j) (omega (arith, length-drop (suc h) t)) ∙ ap length (sym (get_or-drop (suc h) t j [])))
      (λ j l. get_or-drop (suc h) s.lengths j 0 ∙ st.none_past (suc h + j) (omega (arith, length-drop (suc h) t)))

  pub all_at : spans.all ≡ combinations t
  all_at = sp.all_is ∙ span_combinations s.lengths t (omega (arith, st.few, st.eight_lengths)) st.length_is st.none_past

  -- no span is zero
  pub spans_positive : Positive spans
  spans_positive h lt = omega (arith, span_at h lt, combinations_positive (drop (suc h) t))

  -- there are not too many combinations
  all_small : span_of s.lengths ≤ 318644812890625
  all_small = let e = subst (λ (n : ℕ). span_of s.lengths ≤ 65 ^ n) st.eight_lengths (span_le s.lengths st.short) in omega (arith, e)

  span_small : (h : ℕ) → get_or spans.spans h 0 ≤ 318644812890625
  span_small h = go (dec_le 8 h)
    where
      go : Dec (8 ≤ h) → get_or spans.spans h 0 ≤ 318644812890625
      go (yes l) = let z = get_or-eq_default spans.spans 0 {n = h} (omega (arith, sp.eight)) in omega (arith, z)
      go (no l) = omega (arith, sp.each h (omega arith), span_drop (suc h) s.lengths, all_small)

  module _ (b : ℕ) (small : b < combinations t) where
    digit_is : (j : ℕ) → j < length t → digit s spans b j ≡ get_or (digits b t) j 0
    digit_is j lt =
        let z : get_or s.lengths j 0 + 1 ≡ suc (length (get_or t j [])) = omega (arith, st.length_is j lt) in
        ap₂ (λ (x y : ℕ). b / x % y) (span_at j (omega (arith, st.few))) z ∙ sym (get_d_digits b t j lt)

    start_is : (j : ℕ) → j < length t → get_or (spot_of s spans b).starts j 0 ≡ get_or s.starts j 0 + get_or (digits b t) j 0
    unfolding spot_of
    start_is j lt =
        eight_at (λ h. get_or s.starts h 0 + digit s spans b h) j (omega (arith, st.few)) ∙ ap (λ (x : ℕ). get_or s.starts j 0 + x) (digit_is j lt)

    position_is : (j : ℕ) → j < length t → get_or (spot_of s spans b).positions j 0 ≡ get_or (digits b t) j 0
    unfolding spot_of
    position_is j lt = eight_at (λ h. digit s spans b h) j (omega (arith, st.few)) ∙ digit_is j lt

    -- the symbols before the position
    before_is : (j : ℕ) → j < length t → (n : ℕ) → n ≤ get_or (digits b t) j 0
        → part (get_or (spot_of s spans b).starts j 0 - n) n text ≡ part (get_or (digits b t) j 0 - n) n (get_or t j [])
    before_is j lt n le =
        let p : ℕ = get_or (digits b t) j 0 in
        let a : ℕ = get_or s.starts j 0 in
        let z : get_or (spot_of s spans b).starts j 0 - n ≡ a + (p - n) = omega (arith, start_is j lt, le) in
        ap (λ (i : ℕ). part i n text) z
        ∙ sym (part-part (p - n) n a (get_or s.lengths j 0) text (omega (arith, le, digits_le b t j lt, st.length_is j lt)))
        ∙ ap (part (p - n) n) (st.string_is j lt)

    pub at_spot : AtSpot text t (spot_of s spans b) (digits b t)
    unfolding spot_of
    at_spot = record {
      positions = positions_digits b t;
      number_is = sym (place_digits b t small);
      all_is = all_at;
      spotted = record {
        span_is = λ j lt. ap (λ (i : ℕ). get_or spans.spans i 0) (add j) ∙ span_at j (omega (arith, st.few));
        position_is = λ j lt. ap (λ (i : ℕ). get_or (spot_of s spans b).positions i 0) (add j) ∙ position_is j lt;
        before_is = λ j lt n le. ap (λ (i : ℕ). part (get_or (spot_of s spans b).starts i 0 - n) n text) (add j) ∙ before_is j lt n le;
      };
      laid = record {
        few = st.few;
        eight_starts = refl;
        eight_positions = refl;
        eight_spans = sp.eight;
        before = λ j lt. omega (arith, start_is j lt, position_is j lt);
        within = λ j lt. omega (arith, start_is j lt, digits_le b t j lt, st.length_is j lt, st.within j lt);
        small = span_small;
      };
    }
      where
        add : (j : ℕ) → 0 + j ≡ j
        add j = omega arith
