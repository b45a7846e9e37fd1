-- Marks as bytes 0 and 1, and a round in place over edges on them.
use Rattle.std.specs.Prelude.{ℕ, ◌<◌, Bool, List, [], map, eqb, get_or}
use Rattle.automata.specs.Lists.{if}
use Rattle.automata.specs.Rounds.{visit}
use Rattle.automata.specs.InPlace.{sweep_in_place, round_in_place}
use Rattle.intersect_edges.specs.Edges.{record_graph}
use Rattle.intersect_edges.specs.declared.edge.EdgeRecord.{EdgeRecord}

-- a mark as a byte, and what a byte says
abbrev pub bit : Bool → ℕ
bit b = if b 1 0

abbrev pub is_mark : ℕ → Bool
is_mark b = eqb b 1

-- marks as bytes, and bytes as marks
abbrev pub bits : List Bool → List ℕ
bits bs = map bit bs

abbrev pub bools : List ℕ → List Bool
bools ms = map is_mark ms

-- every byte is 0 or 1
unfoldable pub Bits : List ℕ → Type 0
Bits ms = (i : ℕ) → get_or ms i 0 < 2

-- an edge makes the byte x of its source 1 where that of its target is
abbrev pub mark_byte : EdgeRecord → List ℕ → ℕ → ℕ
mark_byte e old x = if (is_mark (get_or old e.to.0 0)) 1 x

-- the bytes after one edge, and after several, the last one first
unfoldable pub visited_marks : EdgeRecord → List ℕ → List ℕ
visited_marks e ms = visit (record_graph []) 0 mark_byte ms ms e

unfoldable pub swept_marks : List EdgeRecord → List ℕ → List ℕ
swept_marks es ms = sweep_in_place (record_graph []) 0 mark_byte ms es

-- the bytes after a round
abbrev pub round_bytes : List EdgeRecord → List ℕ → List ℕ
round_bytes es ms = round_in_place (record_graph es) 0 mark_byte ms
