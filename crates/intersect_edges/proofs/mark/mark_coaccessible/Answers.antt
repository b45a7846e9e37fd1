use Prim.Native.Nat.{◌-◌, ◌+◌}
use native.Mathlib.Omega.{arith}
use Rattle.intersect_edges.specs.Edges.{edges_at}
use Rattle.intersect_edges.proofs.MarkFacts.{rounds_turn, rounds_still, rounds_end}
use Rattle.intersect_edges.proofs.mark.mark_coaccessible.Goals as goal

pub returns-then-round_marks : goal.returns-then-round_marks
returns-then-round_marks c =
    let a = c.args in
    let r = c.requires in
    let l = c.loop in
    rounds_still (edges_at a.base a.arcs a.work.now) a.count (a.count - l.counter) _ _ _ a.marks.now c.if-round_marks.true r.2 c.round_marks.ensures r.1
    r.3 l.invariant.0 l.invariant.1

pub loop-preserved : goal.loop-preserved
loop-preserved c =
    let a = c.args in
    let l = c.loop in
    rounds_turn (edges_at a.base a.arcs a.work.now) a.count (a.count - l.counter) (a.count - (l.counter + 1)) _ _ _ a.marks.now (omega arith)
    c.requires.2 c.round_marks.ensures l.invariant.0 l.invariant.1

pub returns : goal.returns
returns c =
    let a = c.args in
    let r = c.requires in
    let l = c.loop in
    rounds_end (edges_at a.base a.arcs a.work.now) a.count (a.count - l.counter) _ a.marks.now (omega arith) r.2 r.1 r.3
    l.invariant.0 l.invariant.1
