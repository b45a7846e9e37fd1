use Rattle.table_adjacency.proofs.DistinctFacts.{Linking}
use Rattle.table_adjacency.proofs.distinct.link_arcs.Given as goal

abbrev pub invariant-loop-j : goal.invariant-loop-j
invariant-loop-j l = Linking l.fn.counts.arcs l.arcs l.initial.next l.initial.first l.first l.next l.j
