-- The symbols on two tapes of the arc records, and how they are counted: each marks its place in a table of 256 bytes.
use Rattle.std.specs.Prelude.{ℕ, zero, suc, ◌+◌, ◌*◌, ◌<◌, ◌≤◌, List, [], ◌∷◌, ◌++◌, map, eqb, length, get_or, set}
use Rattle.table.specs.Region.{part}
use Rattle.table.specs.Arcs.{label_place}
use Rattle.automata.specs.Lists.{if}
use Rattle.automata.specs.TapePair.{reading}
use Rattle.automata.specs.Layout.{arc_size}

-- ---- the labels

-- the label of tape i, counted from 0, in the arc record at place at, as it is compared
abbrev pub label_at : ℕ → ℕ → List ℕ → List ℕ
label_at i at arcs = map reading (part (label_place at i + 1) (get_or arcs (label_place at i) 0) arcs)

-- those of two tapes of n arcs from place at on, one after the other
unfoldable pub symbols_from : ℕ → ℕ → ℕ → ℕ → List ℕ → List ℕ
symbols_from first second at zero arcs = []
symbols_from first second at (suc n) arcs =
    (label_at first at arcs ++ label_at second at arcs) ++ symbols_from first second (at + arc_size) n arcs

-- the first records are wholly lent, the tapes are of eight, and the labels on them have at most 8 symbols
pub record ShortLabels (arcs : List ℕ) (count first second : ℕ) : Type 0 where
  pub lent : arc_size * count ≤ length arcs
  pub first_tape : first < 8
  pub second_tape : second < 8
  pub first_short : (k : ℕ) → k < count → get_or arcs (label_place (arc_size * k) first) 0 ≤ 8
  pub second_short : (k : ℕ) → k < count → get_or arcs (label_place (arc_size * k) second) 0 ≤ 8

-- ---- the table of symbols seen

-- the table with a 1 at the place of each symbol
unfoldable pub noted : List ℕ → List ℕ → List ℕ
noted seen [] = seen
noted seen (b ∷ bs) = noted (set seen b 1) bs

-- how many of its places hold a 1
unfoldable pub marked : List ℕ → ℕ
marked [] = zero
marked (x ∷ xs) = let rest = marked xs in if (eqb x 1) (suc rest) rest
