use Rattle.delays_relaxation.specs.Edges.{edges}
use Rattle.delays_relaxation.specs.Lowered.{Lowers}
use Rattle.delays_relaxation.proofs.cycles.mark_ways.Given as goal

abbrev pub invariant-loop-q : goal.invariant-loop-q
invariant-loop-q l = Lowers (edges l.reversed l.first l.second 0 l.count l.arcs) l.at l.states l.work l.initial.work
