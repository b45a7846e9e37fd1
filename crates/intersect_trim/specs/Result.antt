-- The bytes of the result: the records of the marked rows and of the edges between them.
use Rattle.std.specs.Prelude.{ℕ, ◌+◌, ◌*◌, ◌≤◌, ◌≡◌, Bool, List, [], ◌++◌, length, get_or}
use Rattle.automata.specs.Lists.{if, and, filter, All}
use Rattle.automata.specs.Records.{write_all}
use Rattle.automata.specs.Memory.{zeros}
use Rattle.automata.specs.Trim.{at_marks}
use Rattle.automata.specs.Calls.Outcome.{overwrite}
use Rattle.automata.specs.Layout.{arc_size, state_size, content_place, content_size}
use Rattle.table.specs.Region.{part}
use Rattle.table.specs.Endian.{to_le}
use Rattle.intersect_edges.specs.declared.edge.EdgeRecord.{EdgeRecord}
use Rattle.intersect_edges.specs.Marked.{is_mark, bools}
use Rattle.intersect_trim.specs.Rows.{row_state, row_plain}

-- ---- states

-- the record of a row: that of its input state where there is no leftover, else ten zeros
unfoldable pub row_record : List ℕ → List ℕ → List ℕ
row_record states row = if (row_plain row) (part (state_size * row_state row) state_size states) (zeros state_size)

-- the record of a row where its mark is 1
unfoldable pub marked_state : ℕ → List ℕ → List ℕ → List ℕ
marked_state m states row = if (is_mark m) (row_record states row) []

-- the records of the marked rows
unfoldable pub kept_states : List ℕ → List ℕ → List (List ℕ) → List ℕ
kept_states states marks rs = write_all (row_record states) (at_marks (bools marks) rs)

-- ---- arcs

-- both ends of an edge are marked
abbrev pub both_marks : List ℕ → EdgeRecord → Bool
both_marks marks e = and (is_mark (get_or marks e.from.0 0)) (is_mark (get_or marks e.to.0 0))

-- the record of an edge: the numbers of its ends among those kept, and what is behind these numbers in the record of
-- its input arc
unfoldable pub arc_bytes : List ℕ → List ℕ → EdgeRecord → List ℕ
arc_bytes ranks inputs e = to_le 2 (get_or ranks e.from.0 0) ++ (to_le 2 (get_or ranks e.to.0 0) ++ part (arc_size * e.arc + content_place) content_size inputs)

-- the record of an edge where both its ends are marked
unfoldable pub marked_arc : List ℕ → List ℕ → List ℕ → EdgeRecord → List ℕ
marked_arc marks ranks inputs e = if (both_marks marks e) (arc_bytes ranks inputs e) []

-- the records of the edges between marked configurations
unfoldable pub kept_arcs : List ℕ → List ℕ → List ℕ → List EdgeRecord → List ℕ
kept_arcs marks ranks inputs es = write_all (arc_bytes ranks inputs) (filter (both_marks marks) es)

-- the records of the edges' input arcs stand within n bytes
unfoldable pub ArcsWithin : ℕ → List EdgeRecord → Type 0
ArcsWithin n es = All (λ e. arc_size * e.arc + arc_size ≤ n) es

-- the arcs between marked configurations were written, from what stood in v to what stands in w, and kept is how many
-- they are
pub record ArcsWritten (marks ranks inputs : List ℕ) (es : List EdgeRecord) (kept : ℕ) (w v : List ℕ) : Type 0 where
  pub bytes : w ≡ overwrite (kept_arcs marks ranks inputs es) v
  pub number : kept ≡ length (filter (both_marks marks) es)
