use Rattle.table_adjacency.proofs.ChainFacts.{first_there, first-none}
use Rattle.table_adjacency.proofs.first_arc.Goals as goal

pub returns-then-q-counts : goal.returns-then-q-counts
returns-then-q-counts c = first_there _ _ _ _ c.if-q-counts.true

pub returns-else-q-counts : goal.returns-else-q-counts
returns-else-q-counts c = first-none _ _ _ _ c.if-q-counts.false
