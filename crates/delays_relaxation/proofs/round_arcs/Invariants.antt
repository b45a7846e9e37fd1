use Rattle.delays_relaxation.proofs.RunFacts.{Sweeping}
use Rattle.delays_relaxation.proofs.round_arcs.Given as goal

abbrev pub invariant-loop-k : goal.invariant-loop-k
invariant-loop-k l = Sweeping l.diverging l.at l.reversed l.first l.second l.count l.arcs l.initial.work l.work l.k l.same
