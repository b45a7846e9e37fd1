use native.Mathlib.Omega.{arith}
use Rattle.table_adjacency.proofs.ChainFacts.{chained_none, source_fits, chained_back}
use Rattle.table_adjacency.proofs.chain_arcs.Goals as goal

pub loop-j-init : goal.loop-j-init
loop-j-init c = chained_none _ _ _ _ _ c.requires _ c.fill.ensures _ c.requires.arcs_fit

pub loop-j-preserved : goal.loop-j-preserved
loop-j-preserved c =
    let l = c.loop-j in
    chained_back _ _ _ _ _ _ c.loop-j-test.true l.auto.j l.invariant _ c.source_at-q.ensures
    (source_fits _ _ _ _ _ c.requires _ c.fill.ensures _ _ (omega (arith, l.auto.j, c.loop-j-test.true)) c.source_at-q.ensures)
