use Rattle.lookup_cells.proofs.PushFacts.{Reaching}
use Rattle.lookup_cells.proofs.push.enqueue_reached.Given as goal

abbrev pub invariant-loop-q : goal.invariant-loop-q
invariant-loop-q l = Reaching l.states l.spot l.work l.initial.queue l.q l.queue
