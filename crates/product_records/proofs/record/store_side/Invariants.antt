use mathlib.Core.Path.{◌≡◌}
use Prim.Native.Nat.{◌+◌, ◌-◌, ◌*◌}
use Rattle.table.specs.Region.{part, splice}
use Rattle.automata.specs.Layout.{arc_size, label_size}
use Rattle.table.specs.Arcs.{labels_start}
use Rattle.product_records.proofs.record.store_side.Given as goal

abbrev pub invariant-loop-tape : goal.invariant-loop-tape
invariant-loop-tape l =
    (l.from ≡ labels_start (arc_size * l.arc) + label_size * l._tape) × (l.at ≡ l.to + label_size * l._tape)
    × (splice l.at (part l.from (label_size * (l.tapes - l._tape)) l.arcs) l.out
    ≡ splice l.to (part (labels_start (arc_size * l.arc)) (label_size * l.tapes) l.arcs) l.initial.out)
