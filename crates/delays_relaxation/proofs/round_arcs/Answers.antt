use Prim.Native.Nat.{◌-◌}
use native.Mathlib.Omega.{arith}
use Rattle.delays_relaxation.proofs.RunFacts.{joined_at, sweep-start, sweep_turn}
use Rattle.delays_relaxation.proofs.round_arcs.Goals as goal

pub loop-k-init : goal.loop-k-init
loop-k-init c = sweep-start _ _ _ _ _ _ _ _

pub visit_edge-kept-requires : goal.visit_edge-kept-requires
visit_edge-kept-requires c =
    let l = c.loop-k in
    let j = joined_at _ _ _ _ 0 _ (l.k - 1) _ _ _ c.requires.0.joined (omega arith) (omega arith) c.edge_at-e.ensures in
    (omega (arith, j.0, c.requires.1), omega (arith, j.1, c.requires.1))

pub loop-k-preserved-then-same : goal.loop-k-preserved-then-same
loop-k-preserved-then-same c =
    let l = c.loop-k in
    sweep_turn _ _ _ _ _ _ _ _ _ l.k _ l.invariant _ _ _ _ _ (omega arith) (omega arith) c.edge_at-e.ensures c.visit_edge-kept.ensures (rw c.if-same.true)

pub loop-k-preserved : goal.loop-k-preserved
loop-k-preserved c =
    let l = c.loop-k in
    sweep_turn _ _ _ _ _ _ _ _ _ l.k _ l.invariant _ _ _ _ _ (omega arith) (omega arith) c.edge_at-e.ensures c.visit_edge-kept.ensures (rw c.if-same.false)
