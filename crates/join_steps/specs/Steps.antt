-- What the steps of a join ask for, once its tables, pairs, limits and work space are judged.
use Rattle.std.specs.Prelude.{ℕ, ◌+◌, ◌/◌, ◌≤◌, ◌≡◌, true, T}
use Rattle.automata.specs.Limits.{max_tapes}
use Rattle.automata.specs.TapePair.{tapes_of, limits_fit}
use Rattle.automata.specs.Tapes.{seconds, place_after}
use Rattle.automata.specs.Memory.{Memory, Sound}
use Rattle.automata.specs.Join.{within}
use Rattle.automata.specs.Calls.Work.{product_work}
use Rattle.automata.specs.Layout.{arc_size, state_size}
use Rattle.table.specs.declared.pair.PairList.{PairList}
use Rattle.table.specs.Pairs.{pairs_as, Named}
use Rattle.pairs.specs.Judgement.{Sided}
use Rattle.intersect_room.specs.declared.room.Room.{Room}
use Rattle.intersect_room.specs.Room.{lent_space, Divides}
use Rattle.intersect.specs.Step.{Intersectable}

-- a table of which the second tapes of these pairs can be dropped: a tape is left
pub record SecondsDroppable (m : Memory) (pairs : PairList) : Type 0 where
  pub sound : Sound m
  pub named : Named m.tapes pairs
  pub left : 1 ≤ place_after (seconds (tapes_of (pairs_as pairs))) m.tapes

-- a table that can be kept on these pairs, and its second tapes dropped then
pub record Keepable (m : Memory) (pairs : PairList) (room : Room) (for_states for_arcs work : ℕ) : Type 0 where
  pub keeps : Intersectable m pairs room for_states for_arcs work
  pub left : 1 ≤ place_after (seconds (tapes_of (pairs_as pairs))) m.tapes

-- two tables, pairs of a tape of the first and one of the second with limits in range, and work space for a product
-- and, divided, for a result in slices of so many bytes
pub record Joinable (a b : Memory) (pairs : PairList) (room : Room) (for_product_states for_product_arcs for_states for_arcs work : ℕ) : Type 0 where
  pub first : Sound a
  pub second : Sound b
  pub narrow : a.tapes + b.tapes ≤ max_tapes
  pub sided : Sided a.tapes b.tapes pairs
  pub inside : T (within a.tapes b.tapes (tapes_of (pairs_as pairs)))
  pub within_limits : limits_fit (pairs_as pairs) ≡ true
  pub work_fits : product_work (lent_space (for_product_states / state_size) (for_product_arcs / arc_size)) ≤ work
  pub divides : Divides (for_states / state_size) (for_arcs / arc_size) (for_product_states / state_size) work room
