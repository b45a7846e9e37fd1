use lib.ListN.{length}
use mathlib.Core.Path.{◌≡◌}
use Prim.Native.Nat.{◌+◌, ◌≤◌}
use Rattle.delays_relaxation.proofs.listing.list_from.Given as goal

abbrev pub invariant-loop-s : goal.invariant-loop-s
invariant-loop-s l =
    (l.s.depth + l.left ≤ 10241) × (length l.cursors ≡ length l.initial.cursors) × (length l.seen ≡ length l.initial.seen) × (length l.stack ≡ length l.initial.stack) × (length l.order ≡ length l.initial.order)

abbrev pub decreases-loop-s : goal.decreases-loop-s
decreases-loop-s l =
    l.left
