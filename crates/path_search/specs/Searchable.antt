-- What the search over tight arcs reads.
use Rattle.std.specs.Prelude.{◌≡◌, List, ℕ, ◌*◌, ◌≤◌, ◌<◌, length, get_or}
use Rattle.table.specs.declared.answer.Counts.{Counts}
use Rattle.lookup_tuple.specs.declared.Strings.{Strings}
use Rattle.lookup_moves.specs.declared.spot.Spans.{Spans}
use Rattle.lookup_moves.specs.Distances.{far, cells_of}
use Rattle.lookup_moves.specs.Spots.{spot_of, Placed, Positive}
use Rattle.lookup_cells.specs.Pushes.{Ready}

-- eight numbers of combinations, none too large
pub record Spannable (spans : Spans) : Type 0 where
  pub eight : length spans.spans ≡ 8
  pub small : (h : ℕ) → get_or spans.spans h 0 ≤ 318644812890625

-- every combination of the strings is ready for the arcs
pub record Searchable (c : Counts) (arcs text : List ℕ) (s : Strings) (spans : Spans) : Type 0 where
  pub spannable : Spannable spans
  pub placed : Placed s
  pub positive : Positive spans
  pub some_combination : 0 < spans.all
  pub ready : (n : ℕ) → n < spans.all → Ready c arcs text (spot_of s spans n)

-- the work space has three numbers a cell, and no weight is above that for "none"
pub record Weights (cells : ℕ) (work : List ℕ) : Type 0 where
  pub room : 24 * cells ≤ length work
  pub below : (k : ℕ) → k < cells → get_or (cells_of work) k 0 ≤ far
