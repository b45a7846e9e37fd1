-- The fields of the arc whose record stands at a place of lent bytes, and of the arc with a number.
use Rattle.std.specs.Prelude.{List, ℕ, ◌+◌, ◌*◌}
use Rattle.automata.specs.Layout.{target_place, content_place, labels_place, label_size, arc_size}
use Rattle.table.specs.Region.{part}
use Rattle.table.specs.Endian.{le}

-- ---- by its place

-- the state that the arc leaves
abbrev pub source_at : ℕ → List ℕ → ℕ
source_at at xs = le (part at 2 xs)

-- the state that it leads to
abbrev pub target_at : ℕ → List ℕ → ℕ
target_at at xs = le (part (at + target_place) 2 xs)

-- its weight
abbrev pub arc_weight_at : ℕ → List ℕ → ℕ
arc_weight_at at xs = le (part (at + content_place) 4 xs)

-- where its labels begin
abbrev pub labels_start : ℕ → ℕ
labels_start at = at + labels_place

-- where its label on a tape stands, the tapes counted from 0
abbrev pub label_place : ℕ → ℕ → ℕ
label_place at tape = labels_start at + label_size * tape

-- ---- by its number

abbrev pub source_of : List ℕ → ℕ → ℕ
source_of arcs e = source_at (arc_size * e) arcs

abbrev pub target_of : List ℕ → ℕ → ℕ
target_of arcs e = target_at (arc_size * e) arcs

abbrev pub arc_weight : List ℕ → ℕ → ℕ
arc_weight arcs e = arc_weight_at (arc_size * e) arcs
