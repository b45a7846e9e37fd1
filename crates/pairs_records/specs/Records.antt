-- A list of pairs lent as records: its first four by value.
use Rattle.std.specs.Prelude.{ℕ, List, [], ◌∷◌, length, get_or}
use Rattle.table.specs.declared.pair.Pair.{Pair}
use Rattle.table.specs.declared.pair.PairList.{PairList}
use Rattle.table.specs.Pairs.{no_pair}

-- four pairs by value, and the number of pairs of the list that they are the first of
abbrev pub four_of : ℕ → Pair → Pair → Pair → Pair → PairList
four_of used a b c d = record { pairs = a ∷ b ∷ c ∷ d ∷ []; used = used }

-- the first four pairs of a list, the missing ones zero, and the number of all
unfoldable pub read_of : List Pair → PairList
read_of ps = four_of (length ps) (get_or ps 0 no_pair) (get_or ps 1 no_pair) (get_or ps 2 no_pair) (get_or ps 3 no_pair)
