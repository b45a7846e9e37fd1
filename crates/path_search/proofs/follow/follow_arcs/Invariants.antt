use Rattle.path_search.proofs.FollowArcsFacts.{Following}
use Prim.Native.Nat.{◌-◌}
use Rattle.path_search.proofs.follow.follow_arcs.Given as goal

abbrev pub invariant-loop-e : goal.invariant-loop-e
invariant-loop-e l =
    Following l.counts l.arcs l.text l.strings l.spans l.here l.found l.initial.work l.e l.count l.work

abbrev pub decreases-loop-e : goal.decreases-loop-e
decreases-loop-e l = l.counts.arcs - l.e
