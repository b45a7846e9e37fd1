use lib.ListN.{length}
use mathlib.Core.Path.{◌≡◌}
use Prim.Native.Nat.{◌<◌}
use Rattle.delays_relaxation.proofs.listing.list_group.Given as goal

abbrev pub invariant-loop-k : goal.invariant-loop-k
invariant-loop-k l = (l.k < 65536) × (length l.order ≡ length l.initial.order)

abbrev pub decreases-loop-k : goal.decreases-loop-k
decreases-loop-k l = l.left
