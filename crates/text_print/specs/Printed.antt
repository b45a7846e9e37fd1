-- The lines of what the records of a table hold.
use Rattle.std.proofs.Math.Option.{none, some}
use Rattle.std.specs.Prelude.{List, [], ◌∷◌, ◌++◌, ℕ, eqb, take, drop, get_or}
use Rattle.automata.specs.Lists.{if}
use Rattle.automata.specs.TableText.{label_columns, weight_columns, header_line}
use Rattle.automata.specs.Layout.{amount_place, amount_width, label_size, labels_place, newline, number_width, symbols_place, weight_size}
use Rattle.table.specs.Arcs.{source_at, target_at, arc_weight_at}
use Rattle.table.specs.Region.{part}
use Rattle.table.specs.Endian.{le}
use Rattle.table.specs.declared.answer.Counts.{Counts}
use Rattle.text_columns.specs.Columns.{decimal_text}
use Rattle.text_store.specs.Recode.{recoded}

-- the columns of the weight in a record
unfoldable pub weight_of_record : List ℕ → List ℕ
weight_of_record x = weight_columns.write (if (eqb (get_or x 0 0) 0) none (some (le (part amount_place 4 x))))

-- the line of the state in a record
unfoldable pub line_of_state : List ℕ → List ℕ
line_of_state x = (weight_of_record (take weight_size x) ++ weight_of_record (drop weight_size x)) ++ (newline ∷ [])

-- the columns of the label in a record
unfoldable pub columns_of_label : List ℕ → List ℕ
columns_of_label x = label_columns.write (take (get_or x 0 0) (drop symbols_place x))

-- source, target and weight in a record of an arc
unfoldable pub numbers_of_record : List ℕ → List ℕ
numbers_of_record x = decimal_text number_width (source_at 0 x) ++ (decimal_text number_width (target_at 0 x) ++ decimal_text amount_width (arc_weight_at 0 x))

-- the line of the arc in a record, of a table with so many tapes
unfoldable pub line_of_arc : ℕ → List ℕ → List ℕ
line_of_arc tapes x = (numbers_of_record x ++ recoded columns_of_label label_size tapes (drop labels_place x)) ++ (newline ∷ [])

-- the header of a table
unfoldable pub header_of : Counts → List ℕ
header_of c = header_line.write (c.tapes, (c.states, c.arcs))
