use Rattle.search_rows.proofs.KeptFacts.{kept_made}
use Rattle.intersect_edges.proofs.EdgeFacts.{length_edge}
use Rattle.intersect_head.proofs.head.store_edge_within.Goals as goal

pub returns : goal.returns
returns c = kept_made _ _ _ _ _ _ _ _ (length_edge _) c.store_edge.ensures c.store_within.ensures
