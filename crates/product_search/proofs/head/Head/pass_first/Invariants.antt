use Prim.Native.Nat.{◌-◌}
use Rattle.product_search.proofs.FirstFacts.{PassingFirst}
use Rattle.product_search.proofs.head.Head.pass_first.Given as goal

abbrev pub invariant-loop-i : goal.invariant-loop-i
invariant-loop-i l = PassingFirst l.plan l.initial.self l.c l.arcs l.links l.initial.work l.self l.work l.i

abbrev pub decreases-loop-i : goal.decreases-loop-i
decreases-loop-i l = l.plan.first.arcs - l.i
