-- A cell found, in the work space: the bytes that are read and written, and what is left.
use mathlib.Core.Path.{◌≡◌}
use mathlib.Core.List.{List}
use Prim.Native.Nat.{ℕ, ◌+◌, ◌*◌, ◌≤◌, ◌<◌}
use native.Mathlib.Omega.{arith}
use borrow.Author.Tests.{lt-ltb, le-ltb}
use lib.ListN.{length, get_or, set}
use Rattle.lookup_moves.specs.Distances.{far, cells_of}
use Rattle.lookup_moves.proofs.CellFacts.{length_cells}
use Rattle.path_search.specs.Search.{search_of, enter}
use Rattle.path_search.specs.FirstPath.{Kept}
use Rattle.path_search.proofs.EnterFacts.{enter-room}

module _ (cells cell found : ℕ) (w : List ℕ) (h : Kept cells (search_of (cells_of w) found)) (lt : cell < cells) where
  -- the mark of a cell lies in the work space
  pub mark-room : 8 * (cells + cell) + 8 ≤ length w
  mark-room = omega (arith, h.room, length_cells w, lt)

  module _ (mark : ℕ) (e : mark ≡ get_or (cells_of w) (cells + cell) 0) where
    -- where a cell is not found, so does the place behind the cells found
    pub order_room : far ≤ mark → 8 * (2 * cells + found) + 8 ≤ length w
    order_room out =
        let room = enter-room cells cell (search_of (cells_of w) found) h lt (omega (arith, e, out)) in
        omega (arith, h.room, length_cells w, room)

    -- a cell that is found changes nothing
    pub stays_found : (arc : ℕ) → mark < far → search_of (cells_of w) found ≡ enter cells arc cell (search_of (cells_of w) found)
    unfolding enter
    stays_found arc in_order = rw (← e, lt-ltb mark far in_order)

    -- one that is not is found when its mark is stored, and its number behind the cells found
    pub is_found : (arc : ℕ) (u v : List ℕ) → far ≤ mark → cells_of u ≡ set (cells_of w) (cells + cell) arc
        → cells_of v ≡ set (cells_of u) (2 * cells + found) cell
        → search_of (cells_of v) (found + 1) ≡ enter cells arc cell (search_of (cells_of w) found)
    unfolding enter
    is_found arc u v out f g = rw (← e, le-ltb mark far out, g, f)
