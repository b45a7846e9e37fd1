use Rattle.table_adjacency.proofs.DistinctFacts.{link_next}
use Rattle.table_adjacency.proofs.distinct.link_arcs.Goals as goal

pub loop-j-preserved : goal.loop-j-preserved
loop-j-preserved c = link_next _ _ _ _ _ c.requires _ c.fill.ensures _ _ _ c.loop-j.invariant c.loop-j-test.true _ _ c.link_arc.ensures
