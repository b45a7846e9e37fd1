-- Tight arcs on the cells of a lookup: an arc is tight from one cell to another where its labels lead there and its
-- weight, with the least weight from there on, is the least weight here. The least paths are those that start where the
-- least weight is, go over tight arcs and end where the final weight is the one left.
use Rattle.std.specs.Prelude.{Some, None, Bool, true, false, List, ℕ, zero, suc, ◌+◌, ◌-◌, ◌*◌, ◌/◌, ◌%◌, eqb, ltb, get_or}
use Rattle.std.proofs.Math.Option.{Option, none, some}
use Rattle.automata.specs.Lists.{if, and}
use Rattle.automata.specs.Layout.{arc_size, state_size, label_size}
use Rattle.table.specs.Records.{Weight, state_at}
use Rattle.table.specs.declared.answer.Counts.{Counts}
use Rattle.lookup_tuple.specs.declared.Strings.{Strings}
use Rattle.lookup_moves.specs.declared.spot.Spans.{Spans}
use Rattle.lookup_moves.specs.Spots.{spot_of}
use Rattle.lookup_cells.specs.Ends.{from_state}
use Rattle.table.specs.Arcs.{source_of, target_of, arc_weight, labels_start}
use Rattle.lookup_cells.specs.Pushes.{back_by}

-- by how much labels move the number of a combination: those of n tapes from tape h on, the first at place `at`, by the
-- numbers of combinations behind each string
unfoldable pub shift_by : ℕ → ℕ → ℕ → List ℕ → List ℕ → ℕ
shift_by zero h at arcs spans = 0
shift_by (suc n) h at arcs spans = get_or arcs at 0 * get_or spans h 0 + shift_by n (h + 1) (at + label_size) arcs spans

-- by how much the labels of arc e do
abbrev pub shift_of : Counts → List ℕ → List ℕ → ℕ → ℕ
shift_of c arcs spans e = shift_by c.tapes 0 (labels_start (arc_size * e)) arcs spans

-- the labels end there
abbrev pub end_there : Option ℕ → Bool
end_there none = false
end_there (some k) = true

module _ (c : Counts) (arcs text : List ℕ) (s : Strings) (spans : Spans) (ws : List ℕ) where
  -- arc e to the combination with number `to` from a cell: the cell there, where the arc is tight
  unfoldable pub tight_to : ℕ → ℕ → ℕ → Option ℕ
  tight_to to here e =
      let there = target_of arcs e * spans.all + to in
      let weighs = eqb (arc_weight arcs e + get_or ws there 0) (get_or ws here 0) in
      let spells = end_there (back_by c.tapes e arcs text (spot_of s spans to)) in
      if (ltb to spans.all) (if weighs (if spells (some there) none) none) none

  -- the cell to which arc e of the table leads from a cell of its source, where it is tight
  unfoldable pub next_cell : ℕ → ℕ → Option ℕ
  next_cell here e =
      let next = tight_to (here % spans.all + shift_of c arcs spans.spans e) here e in
      if (ltb e c.arcs) (if (eqb (source_of arcs e) (here / spans.all)) next none) none

-- the cell from which arc e leads to another
unfoldable pub cell_before : Counts → List ℕ → Spans → ℕ → ℕ → ℕ
cell_before c arcs spans e there = source_of arcs e * spans.all + (there % spans.all - shift_of c arcs spans.spans e)

-- the cell at the first combination of one of n states from which the least weight is attained
unfoldable pub start_cell : ℕ → List ℕ → ℕ → List ℕ → ℕ → ℕ → Option ℕ
start_cell n states all ws least q = if (ltb q n) (if (eqb (from_state states all ws q) least) (some (q * all + 0)) none) none

-- a final weight is the one left at the last combination
abbrev pub ends_by : Weight → ℕ → ℕ → ℕ → Bool
ends_by None all number left = false
ends_by (Some w) all number left = and (eqb (number + 1) all) (eqb w left)

-- a least path ends at a cell
unfoldable pub end_cell : List ℕ → ℕ → List ℕ → ℕ → Bool
end_cell states all ws here = ends_by (state_at (state_size * (here / all)) states).last all (here % all) (get_or ws here 0)
