use Rattle.path_search.proofs.TrailFacts.{write_first, write_cell, write_behind, write_turn, write_end}
use native.Mathlib.Omega.{arith}
use Rattle.path_search.proofs.trail.write_arcs.Goals as goal

pub loop-left-init : goal.loop-left-init
loop-left-init c = write_first c.requires.2

pub overflow_add-cells : goal.overflow_add-cells
overflow_add-cells c = omega (arith, write_cell c.loop-left.invariant, c.requires.1)

pub weight_at-mark-requires : goal.weight_at-mark-requires
weight_at-mark-requires c = omega (arith, write_cell c.loop-left.invariant, c.requires.1)

pub overflow_cast-mark : goal.overflow_cast-mark
overflow_cast-mark c =
    let i = c in
    omega (arith, c.requires.0.few_arcs, (write_behind i.loop-left.invariant i.loop-left-test.true c.weight_at-mark.ensures).arc)

pub cell_before-at-requires : goal.cell_before-at-requires
cell_before-at-requires c =
    let i = c in
    (c.requires.0, write_behind i.loop-left.invariant i.loop-left-test.true c.weight_at-mark.ensures)

pub loop-left-preserved : goal.loop-left-preserved
loop-left-preserved c =
    let i = c in
    write_turn i.loop-left.invariant i.loop-left-test.true c.weight_at-mark.ensures c.requires.3 c.put16.ensures c.cell_before-at.ensures

pub returns : goal.returns
returns c = write_end c.loop-left.invariant c.loop-left-test.false
