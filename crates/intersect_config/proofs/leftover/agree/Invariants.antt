use mathlib.Core.Path.{◌≡◌}
use lib.ListN.{drop}
use Rattle.intersect_config.specs.Leftovers.{agrees}
use Rattle.intersect_config.proofs.leftover.agree.Given as goal

abbrev pub invariant-loop-i : goal.invariant-loop-i
invariant-loop-i l = agrees (drop l.i l.u) (drop l.i l.v) ≡ agrees l.u l.v
