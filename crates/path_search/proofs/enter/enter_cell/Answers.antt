use Rattle.path_search.proofs.EnterCellFacts.{mark-room, order_room, stays_found, is_found}
use Prim.Native.Nat.{◌<◌}
use mathlib.Core.Path.{refl, ◌∙◌}
use lib.ListN.{length}
use native.Mathlib.Omega.{arith}
use Rattle.path_search.proofs.enter.enter_cell.Goals as goal

pub overflow_add-cells : goal.overflow_add-cells
overflow_add-cells c =
    let s = c in
    let z : length s.args.work.now < 18446744073709551616 = omega (arith, s.well_formed) in
    omega (arith, mark-room _ _ _ _ s.requires.0 s.requires.1, z)

pub weight_at-requires : goal.weight_at-requires
weight_at-requires c = let s = c in mark-room _ _ _ _ s.requires.0 s.requires.1

pub returns-then-weight_at-lt-FAR : goal.returns-then-weight_at-lt-FAR
returns-then-weight_at-lt-FAR c =
    let s = c in
    (stays_found _ _ _ _ s.requires.0 s.requires.1 _ c.weight_at.ensures _ c.if-weight_at-lt-FAR.true, refl)

pub overflow_add-cells-2 : goal.overflow_add-cells-2
overflow_add-cells-2 c =
    let s = c in
    let z : length s.args.work.now < 18446744073709551616 = omega (arith, s.well_formed) in
    omega (arith, mark-room _ _ _ _ s.requires.0 s.requires.1, z)

pub set_number-requires : goal.set_number-requires
set_number-requires c = let s = c in mark-room _ _ _ _ s.requires.0 s.requires.1

pub overflow_mul-cells : goal.overflow_mul-cells
overflow_mul-cells c =
    let s = c in
    let z : length s.args.work.now < 18446744073709551616 = omega (arith, s.well_formed) in
    omega (arith, mark-room _ _ _ _ s.requires.0 s.requires.1, z)

pub overflow_add-cells-3 : goal.overflow_add-cells-3
overflow_add-cells-3 c =
    let s = c in
    let z : length s.args.work.now < 18446744073709551616 = omega (arith, s.well_formed) in
    let mark = c.weight_at.ensures in
    let out = c.if-weight_at-lt-FAR.false in
    omega (arith, order_room _ _ _ _ s.requires.0 s.requires.1 _ mark (omega (arith, out)), z)

pub set_number-requires-2 : goal.set_number-requires-2
set_number-requires-2 c =
    let s = c in
    let mark = c.weight_at.ensures in
    let out = c.if-weight_at-lt-FAR.false in
    let room = order_room _ _ _ _ s.requires.0 s.requires.1 _ mark (omega (arith, out)) in
    omega (arith, room, c.set_number.ensures.1)

pub overflow_add-result : goal.overflow_add-result
overflow_add-result c =
    let s = c in
    let z : length s.args.work.now < 18446744073709551616 = omega (arith, s.well_formed) in
    let mark = c.weight_at.ensures in
    let out = c.if-weight_at-lt-FAR.false in
    omega (arith, order_room _ _ _ _ s.requires.0 s.requires.1 _ mark (omega (arith, out)), z)

pub returns : goal.returns
returns c =
    let s = c in
    let mark = c.weight_at.ensures in
    let out = c.if-weight_at-lt-FAR.false in
    let first = c.set_number.ensures in
    let second = c.set_number-2.ensures in
    (is_found _ _ _ _ s.requires.0 s.requires.1 _ mark _ _ _ (omega (arith, out)) first.0 second.0, second.1 ∙ first.1)
