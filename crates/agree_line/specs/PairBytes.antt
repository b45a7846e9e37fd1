-- Pairs of tapes and their limits as bytes.
use Rattle.std.specs.Prelude.{List, [], ◌∷◌, ℕ, min}
use Rattle.automata.specs.TapePair.{TapePair}
use Rattle.automata.specs.Records.{write_all}

-- A number as a byte, 255 for every greater one: no table has a tape above 8, and any limit above 64 is refused alike.
abbrev pub saturated : ℕ → ℕ
saturated n = min n 255

-- the three bytes of a pair
abbrev pub bytes_of_pair : TapePair → List ℕ
bytes_of_pair p = saturated p.first ∷ saturated p.second ∷ saturated p.limit ∷ []

-- the bytes of pairs, three bytes a pair
unfoldable pub pair_bytes : List TapePair → List ℕ
pair_bytes ps = write_all bytes_of_pair ps
