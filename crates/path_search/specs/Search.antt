-- A breadth-first search over numbered cells, in one list of numbers: what stands in the first part is not touched; a
-- second part, as long, has for each cell a mark, the arc by which it was found; a third part, as long, has the cells
-- in the order found.
use Rattle.std.specs.Prelude.{Bool, List, ℕ, zero, suc, ◌+◌, ◌*◌, ltb, get_or, set}
use Rattle.std.proofs.Math.Option.{Option, none, some}
use Rattle.automata.specs.Lists.{if}
use Rattle.lookup_moves.specs.Distances.{far}

-- the numbers, and how many cells are found
pub record Search : Type 0 where
  pub numbers : List ℕ
  pub tail : ℕ

-- the same by its parts
abbrev pub search_of : List ℕ → ℕ → Search
search_of numbers tail = record { numbers = numbers; tail = tail }

-- the mark of a cell at which paths start: the number of no arc
abbrev pub no_arc : ℕ
no_arc = 65535

module _ (cells : ℕ) where
  -- the mark of a cell, `far` or more where it is not found
  abbrev pub mark_at : List ℕ → ℕ → ℕ
  mark_at xs c = get_or xs (cells + c) 0

  -- the i-th cell found
  abbrev pub order_at : List ℕ → ℕ → ℕ
  order_at xs i = get_or xs (2 * cells + i) 0

  -- cell c, found by arc e, behind those found before, unless it is one of them
  unfoldable pub enter : ℕ → ℕ → Search → Search
  enter e c s =
      let found = search_of (set (set s.numbers (cells + c) e) (2 * cells + s.tail) c) (s.tail + 1) in
      if (ltb (mark_at s.numbers c) far) s found

  -- a cell that may be there, found by arc e
  abbrev pub entered : ℕ → Option ℕ → Search → Search
  entered e none s = s
  entered e (some c) s = enter e c s

  -- the cells at which paths start, of k states from q on
  unfoldable pub enter_starts : (ℕ → Option ℕ) → ℕ → ℕ → Search → Search
  enter_starts start zero q s = s
  enter_starts start (suc k) q s = enter_starts start k (q + 1) (entered no_arc (start q) s)

  module _ (next : ℕ → ℕ → Option ℕ) where
    -- the cell to which arc e leads from cell c
    unfoldable pub follow : ℕ → ℕ → Search → Search
    follow c e s = entered e (next c e) s

    -- those of k arcs from e on
    unfoldable pub follow_arcs : ℕ → ℕ → ℕ → Search → Search
    follow_arcs zero c e s = s
    follow_arcs (suc k) c e s = follow_arcs k c (e + 1) (follow c e s)

    -- From the cell at place `head` on, at most k cells are taken up in the order found: the first that is an end is
    -- told; from others all arcs are followed.
    unfoldable pub search_from : ℕ → (ℕ → Bool) → ℕ → ℕ → Search → Option ℕ × Search
    search_from arcs end zero head s = (none, s)
    search_from arcs end (suc k) head s =
        let c = order_at s.numbers head in
        let onward = search_from arcs end k (head + 1) (follow_arcs arcs c 0 s) in
        if (ltb head s.tail) (if (end c) (some c, s) onward) (none, s)
