use mathlib.Core.Path.{◌≡◌}
use lib.ListN.{length}
use Rattle.intersect_config.proofs.FollowFacts.{Filling}
use Rattle.intersect_config.proofs.step.follow.Given as goal

abbrev pub invariant-loop-i : goal.invariant-loop-i
invariant-loop-i l = Filling l.own l.arcs l.at l.pairs l.row l.i × (length l.row ≡ length l.initial.row)
