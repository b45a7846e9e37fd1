use Rattle.path_search.proofs.SearchedFacts.{Starting}
use Rattle.path_search.proofs.search.enter_starts.Given as goal

abbrev pub invariant-loop-q : goal.invariant-loop-q
invariant-loop-q l = Starting l.count l.all l.states l.least l.initial.work l.q l.found l.work
