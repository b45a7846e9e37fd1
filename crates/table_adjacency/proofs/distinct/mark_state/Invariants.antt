use Prim.Native.Nat.{◌-◌}
use Rattle.table_adjacency.proofs.DistinctFacts.{Marking}
use Rattle.table_adjacency.proofs.distinct.mark_state.Given as goal

abbrev pub invariant-loop-j : goal.invariant-loop-j
invariant-loop-j l = Marking l.counts.states l.counts.arcs l.arcs l.q l.initial.seen l.initial.marks l.seen l.marks l.j

abbrev pub decreases-loop-j : goal.decreases-loop-j
decreases-loop-j l = l.counts.arcs - l.j
