use lib.ListN.{length}
use Rattle.table_adjacency.specs.Chains.{ChainedFrom}
use Rattle.table_adjacency.proofs.chain_arcs.Given as goal

abbrev pub invariant-loop-j : goal.invariant-loop-j
invariant-loop-j l = ChainedFrom l.j (length l.initial.first) l.fn.counts.arcs l.arcs l.first l.next
