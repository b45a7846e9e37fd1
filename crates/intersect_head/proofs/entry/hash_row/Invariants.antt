use mathlib.Core.Path.{◌≡◌}
use Prim.Native.Nat.{◌+◌, ◌-◌, ◌*◌, ◌<◌}
use Rattle.intersect_head.specs.Searching.{hash_slots, row_hash}
use Rattle.intersect_config.specs.Leftovers.{leftover_size}
use Rattle.intersect_head.proofs.entry.hash_row.Given as goal

abbrev pub invariant-loop-i : goal.invariant-loop-i
invariant-loop-i l = (l.hash < 8589934592) × (hash_slots (l.used - l.i) (2 + leftover_size * l.i) l.hash l.row ≡ row_hash l.used l.row)
