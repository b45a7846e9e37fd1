use mathlib.Core.Path.{◌≡◌}
use Prim.Native.Nat.{◌+◌, ◌-◌, ◌*◌}
use lib.ListN.{drop}
use Rattle.table.specs.Region.{splice}
use Rattle.tapes_records.specs.Rewritten.{rewritten, raised_arc}
use Rattle.tapes_records.specs.Results.{AllRaisable}
use Rattle.automata.specs.Layout.{arc_size}
use Rattle.tapes_records.proofs.raise.raise_arcs.Given as goal

abbrev pub invariant-loop-i : goal.invariant-loop-i
invariant-loop-i l =
    AllRaisable l.by (l.count - l.i) (drop (l.from + arc_size * l.i) l.arcs)
    × (splice (l.from + arc_size * l.i) (rewritten (raised_arc l.by) (l.count - l.i) (drop (l.from + arc_size * l.i) l.arcs)) l.arcs ≡ splice l.from (rewritten (raised_arc l.by) l.count (drop l.from l.initial.arcs)) l.initial.arcs)
