use Rattle.product_search.proofs.BeginFacts.{Beginning}
use Rattle.product_search.proofs.explore.begin.Given as goal

abbrev pub invariant-loop-q : goal.invariant-loop-q
invariant-loop-q l = Beginning l.plan l.first_states l.second_states l.initial.work l.head l.work l.q
