-- The first line of an input, as it is told: the bytes of the pairs, and where the table begins.
use Rattle.std.specs.Prelude.{◌≡◌, List, ℕ, ◌*◌, ◌≤◌, length, take, drop}
use Rattle.automata.specs.Answer.{◌>>=◌, Answer, ok, refused}
use Rattle.automata.specs.AgreeText.{read_pairs}
use Rattle.table.specs.Answers.{refusal_number}
use Rattle.agree_line.specs.LineParts.{PairLine}
use Rattle.std.specs.Prelude.{Ok, Err}
use Rattle.agree_line.specs.PairBytes.{pair_bytes}

-- the bytes of the pairs and the rest of the input, as they are told, or the refusal
abbrev pub line_as : List ℕ → List ℕ → PairLine → Answer (List ℕ × List ℕ)
line_as input bytes (Ok p) = ok (take (3 * p.count) bytes, drop p.next input)
line_as input bytes (Err k) = refused (refusal_number k)

-- the same, of the pairs that are read
unfoldable pub line_bytes : List ℕ → Answer (List ℕ × List ℕ)
line_bytes input = read_pairs input >>= λ p. ok (pair_bytes p.0, p.1)

-- how many pairs are told, and where the table begins; 0 where the line is refused
abbrev pub count_of : PairLine → ℕ
count_of (Ok p) = p.count
count_of (Err k) = 0

abbrev pub next_of : PairLine → ℕ
next_of (Ok p) = p.next
next_of (Err k) = 0

-- the first line is told as it is read, in its bounds
pub record FirstLine (input bytes : List ℕ) (r : PairLine) : Type 0 where
  pub answer : line_as input bytes r ≡ line_bytes input
  pub count_fits : count_of r ≤ 999
  pub bytes_fit : 3 * count_of r ≤ length bytes
  pub next_fits : next_of r ≤ length input
