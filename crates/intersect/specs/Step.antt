-- What the auto-intersection asks for as a step on a table and pairs that are known to be fine.
use Rattle.std.specs.Prelude.{ℕ, ◌/◌, ◌≡◌, true, length}
use Rattle.automata.specs.TapePair.{limits_fit}
use Rattle.automata.specs.Memory.{Memory, Sound}
use Rattle.automata.specs.Layout.{arc_size, state_size}
use Rattle.table.specs.declared.pair.PairList.{PairList}
use Rattle.table.specs.Pairs.{Named, pairs_as}
use Rattle.intersect_room.specs.declared.room.Room.{Room}
use Rattle.intersect_room.specs.Room.{Divides}

-- a table, at most four pairs of its tapes by value with limits in range, and work space divided for slices of so many
-- bytes
pub record Intersectable (m : Memory) (pairs : PairList) (room : Room) (for_states for_arcs work : ℕ) : Type 0 where
  pub sound : Sound m
  pub named : Named m.tapes pairs
  pub four : length pairs.pairs ≡ 4
  pub within_limits : limits_fit (pairs_as pairs) ≡ true
  pub divides : Divides (for_states / state_size) (for_arcs / arc_size) m.states work room
