-- Combinations of positions by the lengths of strings.
use Rattle.std.specs.Prelude.{◌≡◌, List, [], ◌∷◌, ℕ, suc, ◌*◌, ◌≤◌, length, get_or}
use Rattle.lookup_tuple.specs.declared.Strings.{Strings}
use Rattle.automata.specs.Limits.{max_string}

-- the combinations of positions in strings of these lengths
abbrev pub positions : List ℕ → ℕ
positions [] = 1
positions (n ∷ ns) = suc n * positions ns

-- eight lengths, none above 64
pub record ShortStrings (s : Strings) : Type 0 where
  pub eight : length s.lengths ≡ 8
  pub short : (h : ℕ) → get_or s.lengths h 0 ≤ max_string
