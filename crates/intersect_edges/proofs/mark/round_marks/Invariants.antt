use Rattle.intersect_edges.proofs.MarkFacts.{Sweeping}
use Rattle.intersect_edges.proofs.mark.round_marks.Given as goal

abbrev pub invariant-loop-i : goal.invariant-loop-i
invariant-loop-i l = Sweeping l.base l.arcs l.work l.initial.marks l.marks l.i l.same
