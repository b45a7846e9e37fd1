use Rattle.product_search.proofs.StartFacts.{StartingAll}
use Rattle.product_search.proofs.head.Head.start_all.Given as goal

abbrev pub invariant-loop-q : goal.invariant-loop-q
invariant-loop-q l = StartingAll l.plan l.initial.self l.x.0 l.states l.initial.work l.self l.work l.q
