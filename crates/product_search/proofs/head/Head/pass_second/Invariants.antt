use Prim.Native.Nat.{◌-◌}
use Rattle.product_search.proofs.SecondFacts.{PassingSecond}
use Rattle.product_search.proofs.head.Head.pass_second.Given as goal

abbrev pub invariant-loop-j : goal.invariant-loop-j
invariant-loop-j l = PassingSecond l.plan l.initial.self l.c l.i l.to.0 l.arcs l.links l.initial.work l.self l.work l.j

abbrev pub decreases-loop-j : goal.decreases-loop-j
decreases-loop-j l = l.plan.second.arcs - l.j
