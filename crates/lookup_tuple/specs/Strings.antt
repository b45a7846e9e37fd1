-- The strings of a tuple by their places in its text.
use Rattle.std.specs.Prelude.{◌≡◌, List, [], ℕ, ◌+◌, ◌≤◌, ◌<◌, length, get_or}
use Rattle.automata.specs.Automaton.{Tuple}
use Rattle.automata.specs.Limits.{max_string}
use Rattle.table.specs.Region.{part}
use Rattle.lookup_tuple.specs.declared.Strings.{Strings}

-- the strings of the tuple t stand at these places of the text
pub record Stands (text : List ℕ) (t : Tuple) (s : Strings) : Type 0 where
  pub eight_starts : length s.starts ≡ 8
  pub eight_lengths : length s.lengths ≡ 8
  pub count_is : s.count ≡ length t
  pub few : length t ≤ 8
  pub length_is : (h : ℕ) → h < length t → get_or s.lengths h 0 ≡ length (get_or t h [])
  pub none_past : (h : ℕ) → length t ≤ h → get_or s.lengths h 0 ≡ 0
  pub short : (h : ℕ) → get_or s.lengths h 0 ≤ max_string
  pub within : (h : ℕ) → h < length t → get_or s.starts h 0 + get_or s.lengths h 0 ≤ length text
  pub string_is : (h : ℕ) → h < length t → part (get_or s.starts h 0) (get_or s.lengths h 0) text ≡ get_or t h []
