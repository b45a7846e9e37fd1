-- The lines of a tuple's text, from a place of it on.
use Rattle.std.specs.Prelude as rust
use Rattle.std.specs.Prelude.{Some, None, ◌≡◌, Bool, List, [], ℕ, ◌+◌, ◌-◌, ◌≤◌, ◌<◌, length, get_or, drop}
use Rattle.automata.specs.Refusal
use Rattle.automata.specs.Lists.{all}
use Rattle.automata.specs.Answer.{◌>>=◌, Answer, ok, refused}
use Rattle.automata.specs.Automaton.{Tuple}
use Rattle.automata.specs.Calls.Lookup.{lines_from}
use Rattle.automata.specs.Layout.{newline}
use Rattle.table.specs.Region.{part}

-- the strings of the lines from a place on
unfoldable pub lines_at : ℕ → List ℕ → Answer Tuple
lines_at at text = lines_from [] (drop at text)

-- The line at a place ends at another: no byte 10 stands before it, and one stands there unless the text ends.
pub record LineEnd (text : List ℕ) (from r : ℕ) : Type 0 where
  pub starts : from ≤ r
  pub within : r ≤ length text
  pub unbroken : lines_from (part from (r - from) text) (drop r text) ≡ lines_at from text
  pub ends : r < length text → get_or text r 0 ≡ newline

-- how many strings there are, with so many more
abbrev pub counted : Answer Tuple → ℕ → Answer ℕ
counted a more = a >>= λ t. ok (more + length t)

-- every string passes a test
abbrev pub every : (List ℕ → Bool) → Answer Tuple → Answer Bool
every p a = a >>= λ t. ok (all p t)

-- a number of lines, or text after the last one
abbrev pub LineCount : Type 0
LineCount = rust.Option ℕ

abbrev pub line_count_as : LineCount → Answer ℕ
line_count_as (Some n) = ok n
line_count_as None = refused Refusal.short
