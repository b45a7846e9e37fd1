use Prim.Native.Nat.{◌-◌}
use Rattle.product_search.proofs.RunFacts.{Running}
use Rattle.product_search.proofs.explore.run.Given as goal

abbrev pub invariant-loop-head : goal.invariant-loop-head
invariant-loop-head l = Running l.plan l.initial.head l.first_states l.first_arcs l.first_links l.second_states l.second_arcs l.second_links l.initial.work l.head l.work

abbrev pub decreases-loop-head : goal.decreases-loop-head
decreases-loop-head l = l.plan.states - l.head.taken
