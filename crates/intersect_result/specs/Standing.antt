-- Explored configurations and the edges between them in work space, and the result that is made of them.
use Rattle.std.specs.Prelude.{ℕ, ◌+◌, ◌*◌, ◌≤◌, ◌≡◌, Bool, List, map, length, take}
use Rattle.automata.specs.Lists.{Distinct}
use Rattle.automata.specs.Answer.{ok}
use Rattle.automata.specs.Automaton.{Arc}
use Rattle.automata.specs.TapePair.{TapePair}
use Rattle.automata.specs.Config.{Config, same_config}
use Rattle.automata.specs.Memory.{Memory, Sound, table_of}
use Rattle.automata.specs.Marks.{coaccessible}
use Rattle.automata.specs.Explore.{Edge, edges}
use Rattle.automata.specs.Intersect.{out, assemble}
use Rattle.automata.specs.Calls.Outcome.{Slices, Made, put}
use Rattle.automata.specs.Layout.{arc_size, config_size, state_size, step_size}
use Rattle.table.specs.Answers.{lent}
use Rattle.table.specs.Region.{rows}
use Rattle.intersect_edges.specs.Edges.{edges_at, record_graph, Joined, HoldsEdges}
use Rattle.intersect_edges.specs.Marked.{bools}
use Rattle.intersect_trim.specs.Ranks.{Numbered}
use Rattle.intersect_trim.specs.Rows.{final_byte, Within, RowsOf}
use Rattle.intersect_room.specs.declared.room.Room.{Room}
use Rattle.intersect_offers.specs.declared.plan.Plan.{Plan}
use Rattle.intersect_head.specs.declared.head.Head.{Head}

-- ---- by the bytes

-- the rows of w that the head has reached, and the records of the edges between them at their place in the room,
-- within the bytes lent
pub record Laid (room : Room) (h : Head) (states w : List ℕ) : Type 0 where
  pub few : h.reached ≤ 1024
  pub rows_fit : config_size * h.reached ≤ length w
  pub edges_fit : room.edges + step_size * h.arcs ≤ length w
  pub within : Within (length states) (rows 0 config_size h.reached w)
  pub joined : Joined h.reached (edges_at room.edges h.arcs w)

-- the rows from which a final one is reached are marked, ranks has the number of marked ones before each, and kept is
-- how many they are
pub record Kept (room : Room) (h : Head) (states w marks ranks : List ℕ) (kept : ℕ) : Type 0 where
  pub marked : bools (take h.reached marks)
      ≡ coaccessible (record_graph (edges_at room.edges h.arcs w)) (bools (map (final_byte states) (rows 0 config_size h.reached w)))
  pub numbers : Numbered (bools (take h.reached marks)) h.reached ranks kept

-- ---- by the configurations

-- the edges between configurations of an intersection of the table in m
abbrev pub edges_of : Memory → List TapePair → (Config → Bool) → List Config → List (Edge (ℕ × Arc ℕ))
edges_of m ps v cs = edges same_config (out (table_of m) ps v) cs

-- the configurations cs stand in the rows of w, and the edges between them at their place in the room
pub record Stands (m : Memory) (ps : List TapePair) (v : Config → Bool) (cs : List Config) (room : Room) (h : Head) (w : List ℕ) : Type 0 where
  pub distinct : Distinct cs
  pub many : h.reached ≡ length cs
  pub placed : RowsOf (length (table_of m).states) cs (rows 0 config_size (length cs) w)
  pub number : h.arcs ≡ length (edges_of m ps v cs)
  pub held : HoldsEdges room.edges (length (edges_of m ps v cs)) (edges_of m ps v cs) w

-- some configurations stand in w, with room for all of them in the result's slices of so many bytes
pub record Finishable (p : Plan) (h : Head) (states arcs w : List ℕ) (for_states for_arcs : ℕ) : Type 0 where
  pub sound : Sound (lent p.counts states arcs)
  pub pairs : List TapePair
  pub test : Config → Bool
  pub configs : List Config
  pub stands : Stands (lent p.counts states arcs) pairs test configs p.room h w
  pub few : h.reached ≤ 1024
  pub rows_fit : config_size * h.reached ≤ length w
  pub edges_fit : p.room.edges + step_size * h.arcs ≤ length w
  pub states_lent : state_size * h.reached ≤ for_states
  pub arcs_lent : arc_size * h.arcs ≤ for_arcs

-- the answer and the slices are what a call leaves that gives the result on whatever configurations stand in w
abbrev pub Finished : Plan → Head → List ℕ → List ℕ → List ℕ → Made → Slices → Type 0
Finished p h states arcs w r s =
    (ps : List TapePair) (v : Config → Bool) (cs : List Config) → Stands (lent p.counts states arcs) ps v cs p.room h w
    → r ≡ put (ok (assemble (table_of (lent p.counts states arcs)) ps v cs).automaton) s
