use mathlib.Core.Path.{◌≡◌}
use Prim.Native.Nat.{◌≤◌}
use lib.ListN.{length, take}
use Rattle.table.specs.Region.{splice}
use Rattle.table.proofs.bytes.copy_into.Given as goal

abbrev pub invariant-loop-i : goal.invariant-loop-i
invariant-loop-i l = (l.dst ≡ splice l.at (take l.i l.src) l.initial.dst) × (l.i ≤ length l.src) × (l.i-end ≡ length l.src) × (length l.dst ≡ length l.initial.dst)
