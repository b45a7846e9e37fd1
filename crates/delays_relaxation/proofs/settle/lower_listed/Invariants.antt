use Rattle.delays_relaxation.specs.Edges.{edges}
use Rattle.delays_relaxation.specs.Lowered.{Lowers}
use Rattle.delays_relaxation.proofs.settle.lower_listed.Given as goal

abbrev pub invariant-loop-i : goal.invariant-loop-i
invariant-loop-i l = Lowers (edges l.reversed l.first l.second 0 l.count l.arcs) l.at l.states l.work l.initial.work
