use Prim.Native.Nat.{◌-◌}
use Rattle.product_search.proofs.DegreeFacts.{Counting}
use Rattle.product_search.proofs.degree.degree.Given as goal

abbrev pub invariant-loop-j : goal.invariant-loop-j
invariant-loop-j l = Counting l.counts l.heads l.links l.fn.x.0 l.count l.j

abbrev pub decreases-loop-j : goal.decreases-loop-j
decreases-loop-j l = l.counts.arcs - l.j
