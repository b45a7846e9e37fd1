-- Pairs of tapes and their limits in columns, as a list holds them.
use Rattle.std.specs.Prelude.{List, [], ◌∷◌, ℕ, take, drop}
use Rattle.automata.specs.Answer.{Answer, ok, refused}
use Rattle.automata.specs.TapePair.{TapePair}
use Rattle.automata.specs.Format.{read_copies}
use Rattle.automata.specs.Layout.{entry_width, second_column, limit_column}
use Rattle.automata.specs.AgreeText.{pair_columns}
use Rattle.text_columns.specs.Columns.{read_decimal}
use Rattle.agree_line.specs.PairBytes.{saturated}

-- the number alone, 0 where it is refused
abbrev pub value_of : Answer ℕ → ℕ
value_of (ok n) = n
value_of (refused k) = 0

-- the byte of the number in the places of a list
abbrev pub byte_of_column : List ℕ → ℕ
byte_of_column x = saturated (value_of (read_decimal x))

-- a pair in the places of a list, and so many of them
unfoldable pub read_pair : List ℕ → Answer TapePair
read_pair x = pair_columns.read x

unfoldable pub pairs_read : ℕ → List ℕ → Answer (List TapePair)
pairs_read n x = read_copies pair_columns n x

-- the three bytes of the pair in the places of a list
unfoldable pub bytes_of_columns : List ℕ → List ℕ
bytes_of_columns x = byte_of_column (take entry_width x) ∷ byte_of_column (take entry_width (drop second_column x)) ∷ byte_of_column (take entry_width (drop limit_column x)) ∷ []
