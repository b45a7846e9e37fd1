-- A list of pairs of tapes as it is lent: three bytes a pair, the first tape and the second, counted from 1, and their
-- limit.
use Rattle.std.specs.Prelude.{ℕ, ◌+◌, List, [], ◌∷◌, get_or}
use Rattle.automata.specs.TapePair.{TapePair}
use Rattle.table.specs.declared.pair.Pair as memory

-- The pairs of a list of bytes. A list is counted in whole records: one or two last bytes are no pair.
unfoldable pub pairs_of : List ℕ → List TapePair
pairs_of [] = []
pairs_of (x ∷ []) = []
pairs_of (x ∷ y ∷ []) = []
pairs_of (x ∷ y ∷ z ∷ bytes) = record { first = x; second = y; limit = z } ∷ pairs_of bytes

-- the three bytes at a place as a pair by value, 0 where the list has ended
abbrev pub pair_at : List ℕ → ℕ → memory.Pair
pair_at bytes at = record { first = get_or bytes at 0; second = get_or bytes (at + 1) 0; limit = get_or bytes (at + 2) 0 }
