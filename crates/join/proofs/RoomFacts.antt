-- The work space of a join is long enough exactly where its product's part fits, and its build's fits into the rest; it
-- is divided as the rest is.
use Rattle.std.specs.Prelude.{Option, Some, None, IfSome}
use mathlib.Core.Path.{◌≡◌, sym, ◌∙◌}
use Prim.Native.Nat.{ℕ, ◌+◌, ◌*◌, ◌<◌}
use native.Mathlib.Omega.{arith}
use lib.Dec.{leb, leb→le, le→leb}
use borrow.Author.Tests.{lt-leb}
use Rattle.automata.specs.Calls.Work.{product_work, join_work}
use Rattle.automata.proofs.TestFacts.{T_same}
use Rattle.automata.specs.Layout.{step_size, vertex_size}
use Rattle.intersect_room.specs.declared.room.Room.{Room}
use Rattle.intersect_room.specs.Room.{lent_space, Divides, RoomFor}
use Rattle.join.specs.Judged.{JoinRoom}

-- what is enough behind two parts is enough with them
behind : (a need left work : ℕ) → a + left ≡ work → leb need left ≡ leb (a + need) work
behind a need left work h =
    T_same (leb need left) (leb (a + need) work)
    (λ t. let l = leb→le need left t in le→leb (a + need) work (omega arith))
    (λ t. let l = leb→le (a + need) work t in le→leb need left (omega arith))

module _ (product_states product_arcs states arcs work : ℕ) where
  -- the need of the whole join
  abbrev need : ℕ
  need = join_work (lent_space product_states product_arcs) (lent_space states arcs)

  -- no room where the states or the arcs of the product are too many
  pub short : work < vertex_size * product_states + step_size * product_arcs → JoinRoom (lent_space product_states product_arcs) (lent_space states arcs) work None
  unfolding join_work product_work
  short h = record { enough = sym (lt-leb need work (omega arith)); divides = tt }

  -- the build decides
  pub by_build : (left : ℕ) → vertex_size * product_states + step_size * product_arcs + left ≡ work → (r : Option Room) → RoomFor states arcs product_states left r
      → JoinRoom (lent_space product_states product_arcs) (lent_space states arcs) work r
  unfolding join_work product_work
  by_build left h r f = record { enough = f.enough ∙ behind _ _ left work h; divides = go r f.divides }
    where
      go : (r : Option Room) → IfSome r (Divides states arcs product_states left) → IfSome r (Divides states arcs product_states work)
      go None d = tt
      go (Some room) d = record {
        state_cap_is = d.state_cap_is;
        arc_cap_is = d.arc_cap_is;
        configs_fit = d.configs_fit;
        edges_fit = d.edges_fit;
        delays_fit = omega (arith, d.delays_fit);
      }
