use Rattle.path_search.proofs.FollowArcsFacts.{shift_requires, shift_fits, follow_nowhere, reached_lt, follow_there}
use mathlib.Core.Path.{refl}
use native.Mathlib.Nat.{mod-le}
use native.Mathlib.Omega.{arith}
use Rattle.path_search.proofs.follow.follow_arc.Goals as goal

pub shift_of-requires : goal.shift_of-requires
shift_of-requires c = shift_requires _ _ _ _ _ c.requires.0 _ c.requires.3

pub overflow_add-to : goal.overflow_add-to
overflow_add-to c =
    let r = mod-le c.args.here c.args.spans.all in
    let x = shift_fits _ _ _ _ _ c.requires.0 _ _ c.requires.3 c.shift_of.ensures in
    omega (arith, r, x, c.requires.4, c.requires.1.room, c.well_formed)

pub returns-in-None : goal.returns-in-None
returns-in-None c = (follow_nowhere _ _ _ _ _ c.requires.0 _ _ _ c.requires.3 c.requires.5 _ _ c.shift_of.ensures refl _ _ c.in-None.ensures, refl)

pub overflow_mul-counts : goal.overflow_mul-counts
overflow_mul-counts c = omega (arith, c.requires.1.room, c.well_formed)

pub enter_cell-requires : goal.enter_cell-requires
enter_cell-requires c =
    (c.requires.2, reached_lt _ _ _ _ _ c.requires.0 _ _ _ c.requires.3 c.requires.5 _ _ c.shift_of.ensures refl _ c.in-Some.ensures)

pub returns-in-Some : goal.returns-in-Some
returns-in-Some c =
    let e = c.enter_cell.ensures in
    (follow_there _ _ _ _ _ c.requires.0 _ _ _ c.requires.3 c.requires.5 _ _ c.shift_of.ensures refl _ _ _ _ c.in-Some.ensures e.0, e.1)
