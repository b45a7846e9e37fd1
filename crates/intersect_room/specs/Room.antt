-- How a build divides its work space.
use Rattle.std.specs.Prelude.{Option, is_some, IfSome, ◌≡◌, ℕ, ◌+◌, ◌*◌, ◌≤◌, leb}
use Rattle.automata.specs.Space.{Space, state_cap, arc_cap}
use Rattle.automata.specs.Calls.Work.{build_work}
use Rattle.automata.specs.Layout.{config_size, delays_size, step_size}
use Rattle.intersect_room.specs.declared.room.Room.{Room}

-- the space lent, in states and arcs
abbrev pub lent_space : ℕ → ℕ → Space
lent_space states arcs = record { states = states; arcs = arcs }

-- the parts of the work space, for so many states and arcs lent and so many states of the table read, within so many
-- bytes
pub record Divides (states arcs read work : ℕ) (r : Room) : Type 0 where
  pub state_cap_is : r.states ≡ state_cap (lent_space states arcs)
  pub arc_cap_is : r.arcs ≡ arc_cap (lent_space states arcs)
  pub configs_fit : config_size * r.states ≤ r.edges
  pub edges_fit : r.edges + step_size * r.arcs ≤ r.delays
  pub delays_fit : r.delays + delays_size * read ≤ work

-- the answer: there is room exactly where the work space is as long as document 01 calls for (else 13), and then so
-- divided
pub record RoomFor (states arcs read work : ℕ) (r : Option Room) : Type 0 where
  pub enough : is_some r ≡ leb (build_work (lent_space states arcs) read) work
  pub divides : IfSome r (Divides states arcs read work)
