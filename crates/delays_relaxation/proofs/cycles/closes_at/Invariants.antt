use lib.ListN.{length}
use mathlib.Core.Path.{◌≡◌}
use Prim.Native.Nat.{◌<◌}
use Rattle.delays_relaxation.proofs.cycles.closes_at.Given as goal

abbrev pub invariant-loop-count : goal.invariant-loop-count
invariant-loop-count l = (l.p < 65536) × (length l.seen ≡ length l.initial.seen)

abbrev pub decreases-loop-count : goal.decreases-loop-count
decreases-loop-count l = l.left
