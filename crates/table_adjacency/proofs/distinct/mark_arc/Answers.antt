use Rattle.table_adjacency.proofs.DistinctFacts.{marked_now}
use Rattle.table_adjacency.proofs.distinct.mark_arc.Goals as goal

pub returns-then-seen-t : goal.returns-then-seen-t
returns-then-seen-t c = marked_now _ _ _ _ _ c.requires.1 c.requires.2
