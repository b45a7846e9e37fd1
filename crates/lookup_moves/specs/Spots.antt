-- Combinations of positions by their numbers.
use Rattle.std.specs.Prelude.{◌≡◌, ◌⊎◌, List, [], ◌∷◌, ℕ, suc, ◌+◌, ◌*◌, ◌/◌, ◌%◌, ◌≤◌, ◌<◌, length, get_or, drop}
use Rattle.lookup_tuple.specs.declared.Strings.{Strings}
use Rattle.lookup_moves.specs.declared.spot.Spot.{Spot}
use Rattle.lookup_moves.specs.declared.spot.Spans.{Spans}
use Rattle.automata.specs.Limits.{max_string}

-- the combinations of positions in strings of these lengths
unfoldable pub span_of : List ℕ → ℕ
span_of [] = 1
span_of (n ∷ ns) = (n + 1) * span_of ns

-- the combinations in the strings behind each of eight, and in all, by their lengths
pub record Spanned (lengths : List ℕ) (s : Spans) : Type 0 where
  pub eight : length s.spans ≡ 8
  pub each : (h : ℕ) → h < 8 → get_or s.spans h 0 ≡ span_of (drop (suc h) lengths)
  pub all_is : s.all ≡ span_of lengths

-- the position in string h
abbrev pub digit : Strings → Spans → ℕ → ℕ → ℕ
digit s spans number h = number / get_or spans.spans h 0 % (get_or s.lengths h 0 + 1)

-- the values of f from 0 to 7
abbrev pub eight_of : (ℕ → ℕ) → List ℕ
eight_of f = f 0 ∷ f 1 ∷ f 2 ∷ f 3 ∷ f 4 ∷ f 5 ∷ f 6 ∷ f 7 ∷ []

-- the combination of a number
unfoldable pub spot_of : Strings → Spans → ℕ → Spot
spot_of s spans number = record {
  starts = eight_of (λ h. get_or s.starts h 0 + digit s spans number h);
  positions = eight_of (λ h. digit s spans number h);
  spans = spans.spans;
  number = number;
  all = spans.all;
}

-- eight strings, none too long, each with an end that fits 64 bits
pub record Placed (s : Strings) : Type 0 where
  pub short : (h : ℕ) → get_or s.lengths h 0 ≤ max_string
  pub fits : (h : ℕ) → h < 8 → (get_or s.lengths h 0 ≡ 0) ⊎ (get_or s.starts h 0 + get_or s.lengths h 0 < 18446744073709551616)

-- the spans are not zero
abbrev pub Positive : Spans → Type 0
Positive s = (h : ℕ) → h < 8 → 0 < get_or s.spans h 0
