use Rattle.intersect_edges.proofs.EdgeFacts.{edge_stored}
use Rattle.intersect_edges.proofs.edge.store_edge.Goals as goal

pub returns : goal.returns
returns c = edge_stored _ c.args.e _ _ _ _ c.requires c.put16.ensures c.put16-2.ensures c.put16-3.ensures
