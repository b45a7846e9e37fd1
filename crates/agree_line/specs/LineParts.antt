-- The parts of the first line of an input.
use Rattle.std.specs.Prelude.{Result, Ok, Err, List, ℕ, ◌+◌, ◌*◌, leb, length, take, drop}
use Rattle.automata.specs.Answer.{◌>>=◌, Answer, ok, refused, require}
use Rattle.automata.specs.Refusal.{size, short}
use Rattle.automata.specs.TapePair.{TapePair}
use Rattle.automata.specs.Sequence.{read_first}
use Rattle.automata.specs.Decimal.{decimal}
use Rattle.automata.specs.Layout.{entry_width, pairs_column, pair_width}
use Rattle.automata.specs.AgreeText.{input_limit, shortest_line, pair_line}
use Rattle.table.specs.Answers.{refusal_number}
use Rattle.table.specs.declared.answer.Refusal.{Refusal}
use Rattle.agree_line.specs.declared.line.LineParts.{LineParts}

-- the number of pairs
unfoldable pub count_read : List ℕ → Answer ℕ
count_read x = do
  s ← require (leb (length x) input_limit) size
  l ← require (leb shortest_line (length x)) short
  (decimal entry_width).read (take entry_width x)

-- the pairs, in the places of a line behind their number
unfoldable pub line_read : ℕ → List ℕ → Answer (List TapePair)
line_read n x = (pair_line n).read x

-- the number of pairs and the place behind the line, of a line of n pairs
unfoldable pub rest_read : ℕ → List ℕ → Answer (ℕ × ℕ)
rest_read n x = read_first (pair_line n) (drop pairs_column x) >>= λ p. ok (n, shortest_line + n * pair_width)

-- the same of the first line of an input
unfoldable pub parts_read : List ℕ → Answer (ℕ × ℕ)
parts_read x = count_read x >>= λ n. rest_read n x

-- the parts told of a first line, or its refusal
abbrev pub PairLine : Type 0
PairLine = Result LineParts Refusal

-- what it stands for
abbrev pub parts_as : PairLine → Answer (ℕ × ℕ)
parts_as (Ok p) = ok (p.count, p.next)
parts_as (Err k) = refused (refusal_number k)
