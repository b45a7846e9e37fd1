use Prim.Native.Nat.{◌-◌}
use Rattle.intersect_search.proofs.RunFacts.{Running}
use Rattle.intersect_search.proofs.explore.run_chained.Given as goal

abbrev pub invariant-loop-head : goal.invariant-loop-head
invariant-loop-head l = Running l.plan l.initial.head l.arcs l.initial.work l.head l.work

abbrev pub decreases-loop-head : goal.decreases-loop-head
decreases-loop-head l = l.plan.room.states - l.head.taken
