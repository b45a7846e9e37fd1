use Prim.Native.Nat.{◌-◌}
use Rattle.search_chains.proofs.EntryFacts.{Clearing}
use Rattle.search_chains.proofs.clear.Given as goal

abbrev pub invariant-loop-b : goal.invariant-loop-b
invariant-loop-b l = Clearing l.stride l.size l.room l.initial.work l.work l.b

abbrev pub decreases-loop-b : goal.decreases-loop-b
decreases-loop-b l = l.room - l.b
