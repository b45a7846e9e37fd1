-- The work space is long enough exactly where all of its parts fit.
use mathlib.Core.Path.{◌≡◌, sym}
use Prim.Native.Nat.{ℕ, ◌+◌, ◌*◌, ◌≤◌, ◌<◌, min}
use native.Mathlib.Omega.{arith}
use borrow.Author.Tests.{le-leb, lt-leb}
use Rattle.std.specs.Prelude.{Some, None}
use Rattle.automata.specs.Calls.Work.{build_work}
use Rattle.automata.specs.Layout.{config_size, delays_size, step_size}
use Rattle.intersect_room.specs.Room.{lent_space, RoomFor}

-- too short
pub short : (states arcs read work : ℕ) → work < config_size * states + step_size * arcs + delays_size * read → RoomFor states arcs read work None
unfolding build_work
short states arcs read work h = record { enough = sym (lt-leb (build_work (lent_space states arcs) read) work (omega arith)); divides = tt }

-- all parts fit
pub whole : (states arcs read work edges delays s a : ℕ) → edges ≡ config_size * states → delays ≡ step_size * arcs + edges → delays_size * read + delays ≤ work
    → s ≡ min states 1024 → a ≡ min arcs 8192 → RoomFor states arcs read work (Some (record { states = s; arcs = a; edges = edges; delays = delays }))
unfolding build_work
whole states arcs read work edges delays s a e d h p q = record {
  enough = sym (le-leb (build_work (lent_space states arcs) read) work (omega arith));
  divides = record {
    state_cap_is = p;
    arc_cap_is = q;
    configs_fit = omega arith;
    edges_fit = omega arith;
    delays_fit = omega arith;
  };
}
