use mathlib.Core.Path.{◌≡◌}
use Prim.Native.Nat.{◌-◌, ◌*◌}
use Rattle.table.specs.Region.{part, splice}
use Rattle.tapes_records.specs.Rewritten.{chosen_labels}
use Rattle.automata.specs.Layout.{label_size}
use Rattle.tapes_records.proofs.choose.copy_labels.Given as goal

abbrev pub invariant-loop-tape : goal.invariant-loop-tape
invariant-loop-tape l =
    (l.to ≡ label_size * l.tape-index)
    × (splice l.to (chosen_labels (part l.tape-index (l.used - l.tape-index) l.tapes) l.labels) l.out ≡ splice 0 (chosen_labels (part 0 l.used l.tapes) l.labels) l.initial.out)
