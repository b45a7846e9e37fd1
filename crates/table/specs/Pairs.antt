-- What the pairs by value stand for, and when they name tapes of a table.
use Rattle.std.specs.Prelude.{ℕ, ◌≤◌, ◌<◌, List, map, get_or, take}
use Rattle.automata.specs.TapePair as automata
use Rattle.table.specs.declared.pair.Pair.{Pair}
use Rattle.table.specs.declared.pair.PairList.{PairList}

-- a pair of tapes with its limit
abbrev pub pair_as : Pair → automata.TapePair
pair_as p = record { first = p.first; second = p.second; limit = p.limit }

-- its two tapes, whatever its limit
abbrev pub tapes_as : Pair → automata.Pair
tapes_as p = record { first = p.first; second = p.second }

-- the pairs that are used
abbrev pub pairs_as : PairList → List automata.TapePair
pairs_as ps = map pair_as (take ps.used ps.pairs)

-- what an element of an array of pairs is where the array ends
abbrev pub no_pair : Pair
no_pair = record { first = 0; second = 0; limit = 0 }

-- both tapes of a pair are among so many, counted from 1
pub record Within (tapes : ℕ) (p : Pair) : Type 0 where
  pub first_from : 1 ≤ p.first
  pub first_to : p.first ≤ tapes
  pub second_from : 1 ≤ p.second
  pub second_to : p.second ≤ tapes

-- at most four pairs are used, and each names tapes of a table with so many
pub record Named (tapes : ℕ) (ps : PairList) : Type 0 where
  pub used_fit : ps.used ≤ 4
  pub each : (h : ℕ) → h < ps.used → Within tapes (get_or ps.pairs h no_pair)
