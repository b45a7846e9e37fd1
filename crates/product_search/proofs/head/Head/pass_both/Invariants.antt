use Prim.Native.Nat.{◌-◌}
use Rattle.product_search.proofs.BothFacts.{PassingBoth}
use Rattle.product_search.proofs.head.Head.pass_both.Given as goal

abbrev pub invariant-loop-i : goal.invariant-loop-i
invariant-loop-i l = PassingBoth l.plan l.initial.self l.c l.first_arcs l.first_links l.second_arcs l.second_links l.initial.work l.self l.work l.i

abbrev pub decreases-loop-i : goal.decreases-loop-i
decreases-loop-i l = l.plan.first.arcs - l.i
