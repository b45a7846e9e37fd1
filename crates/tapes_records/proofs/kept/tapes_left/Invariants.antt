use mathlib.Core.Path.{◌≡◌}
use Prim.Native.Nat.{◌+◌, ◌-◌, ◌≤◌}
use lib.ListN.{length}
use Rattle.automata.specs.Calls.Drop.{in_mask}
use Rattle.table.specs.Region.{splice}
use Rattle.tapes_records.specs.Choice.{tapes_left}
use Rattle.tapes_records.proofs.kept.tapes_left.Given as goal

abbrev pub invariant-loop-place : goal.invariant-loop-place
invariant-loop-place l =
    (l.used ≤ l.place)
    × (splice l.used (tapes_left (in_mask l.mask) l.place (l.tapes - l.place)) l.kept ≡ splice 0 (tapes_left (in_mask l.mask) 0 l.tapes) l.initial.kept)
    × (l.used + length (tapes_left (in_mask l.mask) l.place (l.tapes - l.place)) ≡ length (tapes_left (in_mask l.mask) 0 l.tapes))
