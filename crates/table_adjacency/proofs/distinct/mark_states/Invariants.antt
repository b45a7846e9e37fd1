use Rattle.table_adjacency.proofs.DistinctFacts.{MarkingAll}
use Rattle.table_adjacency.proofs.distinct.mark_states.Given as goal

abbrev pub invariant-loop-q : goal.invariant-loop-q
invariant-loop-q l = MarkingAll l.counts.states l.counts.arcs l.arcs l.initial.seen l.initial.marks l.seen l.marks l.q
