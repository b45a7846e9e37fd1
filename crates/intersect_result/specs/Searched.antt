-- What the search over configurations tells, and the answer by it.
use Rattle.std.specs.Prelude.{ℕ, ◌≤◌, ◌<◌, ◌/◌, ◌≡◌, Bool, true, false, List, length}
use Rattle.automata.specs.Answer.{◌>>=◌, Answer, ok}
use Rattle.automata.specs.Automaton.{Automaton}
use Rattle.automata.specs.Space.{Space}
use Rattle.automata.specs.TapePair.{TapePair}
use Rattle.automata.specs.Config.{Config}
use Rattle.automata.specs.Memory.{Memory, Sound, table_of}
use Rattle.automata.specs.Intersect.{reached_configs, delayed, intersect_by}
use Rattle.automata.specs.Calls.Outcome.{Slices, Made, space_of, put}
use Rattle.automata.specs.Layout.{arc_size, config_size, state_size}
use Rattle.table.specs.Answers.{lent}
use Rattle.table.specs.Region.{rows}
use Rattle.intersect_edges.specs.Edges.{HoldsEdges}
use Rattle.intersect_trim.specs.Rows.{RowsOf}
use Rattle.intersect_room.specs.declared.room.Room.{Room}
use Rattle.intersect_room.specs.Room.{Divides}
use Rattle.intersect_offers.specs.declared.plan.Plan.{Plan}
use Rattle.intersect_head.specs.declared.head.Head.{Head}
use Rattle.intersect_result.specs.Standing.{edges_of}

-- the reached configurations of an intersection of the table in m, or more than there is room for
abbrev pub found_in : Memory → List TapePair → (Config → Bool) → Room → List Config
found_in m ps v room = reached_configs (table_of m) ps v room.states

-- all of them are within the room and stand in w, with the edges between them as far as there is room; the head counts
-- them and tells whether a step is too long
pub record FoundWithin (m : Memory) (ps : List TapePair) (v : Config → Bool) (room : Room) (h : Head) (w : List ℕ) : Type 0 where
  pub few : length (found_in m ps v room) ≤ room.states
  pub many : h.reached ≡ length (found_in m ps v room)
  pub number : h.arcs ≡ length (edges_of m ps v (found_in m ps v room))
  pub delay : h.late ≡ delayed (table_of m) ps v (found_in m ps v room)
  pub placed : RowsOf (length (table_of m).states) (found_in m ps v room) (rows 0 config_size (length (found_in m ps v room)) w)
  pub held : HoldsEdges room.edges room.arcs (edges_of m ps v (found_in m ps v room)) w

-- what a search tells: whether there are more than there is room for, and else what they are
pub record Searched (m : Memory) (ps : List TapePair) (v : Config → Bool) (room : Room) (h : Head) (w : List ℕ) : Type 0 where
  pub over : h.full ≡ true → room.states < length (found_in m ps v room)
  pub within : h.full ≡ false → FoundWithin m ps v room h w

-- a search by the plan was made of the table in these bytes, its room that of the work space w for slices of so many
-- bytes
pub record Answerable (p : Plan) (h : Head) (states arcs w : List ℕ) (for_states for_arcs : ℕ) : Type 0 where
  pub sound : Sound (lent p.counts states arcs)
  pub divides : Divides (for_states / state_size) (for_arcs / arc_size) p.counts.states (length w) p.room
  pub pairs : List TapePair
  pub test : Config → Bool
  pub searched : Searched (lent p.counts states arcs) pairs test p.room h w

-- the auto-intersection without its configurations
abbrev pub table_by : Memory → List TapePair → (Config → Bool) → Space → Answer (Automaton ℕ)
table_by m ps v space = intersect_by (table_of m) ps v space >>= λ I. ok I.automaton

-- the answer and the slices are what the auto-intersection leaves, whatever pairs and test the search was made for
abbrev pub Answers : Plan → Head → List ℕ → List ℕ → List ℕ → Made → Slices → Type 0
Answers p h states arcs w r s =
    (ps : List TapePair) (v : Config → Bool) → Searched (lent p.counts states arcs) ps v p.room h w
    → r ≡ put (table_by (lent p.counts states arcs) ps v (space_of s)) s
