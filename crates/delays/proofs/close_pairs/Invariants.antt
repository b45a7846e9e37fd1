use Rattle.delays.specs.ClosingRegion.{ClosesPairs}
use Rattle.delays.proofs.close_pairs.Given as goal

abbrev pub invariant-loop-h : goal.invariant-loop-h
invariant-loop-h l = ClosesPairs l.bytes l.states l.arcs l.count l.pairs.pairs l.h l.base l.work l.initial.work
