-- The records of what the lines of a text hold, where the lines were judged.
use Rattle.std.specs.Prelude.{List, ◌++◌, ℕ, ◌-◌, ◌*◌, ◌%◌, take, drop}
use Rattle.automata.specs.Memory.{state_record, label_record, zeros}
use Rattle.automata.specs.TableText.{after_blanks}
use Rattle.automata.specs.Layout.{amount_width, label_width, labels_column, labels_size, number_width, weight_column, label_size}
use Rattle.table.specs.Endian.{to_le}
use Rattle.text_columns.specs.Columns.{columns_value, columns_weight}
use Rattle.text_store.specs.Recode.{recoded}

-- the record of the state in a line
unfoldable pub state_of_line : List ℕ → List ℕ
state_of_line x = state_record.write (record { initial = columns_weight (take amount_width x); final = columns_weight (take amount_width (drop amount_width x)) })

-- the record of the label in nine columns
unfoldable pub label_of_columns : List ℕ → List ℕ
label_of_columns x = label_record.write (after_blanks (drop 1 x))

-- source, target and weight of the arc in a line, low bytes first
unfoldable pub number_bytes : List ℕ → List ℕ
number_bytes x =
    to_le 2 (columns_value 0 (take number_width x) % 65536)
    ++ (to_le 2 (columns_value 0 (take number_width (drop number_width x)) % 65536) ++ to_le 4 (columns_value 0 (take amount_width (drop weight_column x)) % 4294967296))

-- the places of the labels of an arc where there are none
unfoldable pub no_labels : List ℕ
no_labels = zeros labels_size

-- the record of the arc in a line, of a table with so many tapes
unfoldable pub arc_of_line : ℕ → List ℕ → List ℕ
arc_of_line tapes x = number_bytes x ++ (recoded label_of_columns label_width tapes (drop labels_column x) ++ zeros ((8 - tapes) * label_size))
