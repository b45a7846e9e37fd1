use Rattle.path_search.proofs.TrailFacts.{count_stop, count_behind, count_turn, count_end}
use mathlib.Core.Path.{◌≡◌}
use Prim.Native.Nat.{◌+◌, ◌-◌, ◌<◌}
use native.Mathlib.Omega.{arith}
use Rattle.path_search.proofs.trail.count_arcs.Goals as goal

pub returns-then-mark-eq-NO_ARC : goal.returns-then-mark-eq-NO_ARC
returns-then-mark-eq-NO_ARC c =
    count_stop c.loop-count.invariant (omega (arith, c.loop-count-test.true)) c.weight_at-mark.ensures c.if-mark-eq-NO_ARC.true

pub cell_before-at-requires : goal.cell_before-at-requires
cell_before-at-requires c =
    (c.requires.0, count_behind c.loop-count.invariant (omega (arith, c.loop-count-test.true)) c.weight_at-mark.ensures c.if-mark-eq-NO_ARC.false)

pub loop-count-preserved : goal.loop-count-preserved
loop-count-preserved c =
    let some_left : 0 < c.args.found - c.loop-count.count = omega (arith, c.loop-count-test.true) in
    let e : c.args.found - (c.loop-count.count + 1) ≡ c.args.found - c.loop-count.count - 1 = omega arith in
    rw e (count_turn c.loop-count.invariant some_left c.weight_at-mark.ensures c.if-mark-eq-NO_ARC.false c.cell_before-at.ensures)

pub returns : goal.returns
returns c = omega (arith, c.loop-count.invariant.all_are, count_end c.loop-count.invariant (omega (arith, c.loop-count-test.false)))
