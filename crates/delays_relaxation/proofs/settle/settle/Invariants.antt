use Rattle.delays_relaxation.specs.Edges.{edges}
use Rattle.delays_relaxation.specs.Lowered.{Lowers}
use Rattle.delays_relaxation.proofs.settle.settle.Given as goal

abbrev pub invariant-loop-round : goal.invariant-loop-round
invariant-loop-round l = Lowers (edges l.reversed l.first l.second 0 l.count l.arcs) l.at l.states l.work l.initial.work
