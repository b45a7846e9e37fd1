use Rattle.path_search.specs.Tight.{shift_by}
use Prim.Native.Nat.{◌+◌, ◌-◌, ◌*◌, ◌≤◌}
use mathlib.Core.Path.{◌≡◌}
use Rattle.automata.specs.Layout.{arc_size, label_size}
use Rattle.table.specs.Arcs.{labels_start}
use Rattle.path_search.proofs.tight.shift_of.Given as goal

abbrev pub invariant-loop-h : goal.invariant-loop-h
invariant-loop-h l =
    (l.at ≡ labels_start (arc_size * l.e) + label_size * l.h) × (l.shift ≤ l.h * 2549158503125000)
    × (l.shift + shift_by (l.fn.counts.tapes - l.h) l.h l.at l.arcs l.spans.spans
    ≡ shift_by l.fn.counts.tapes 0 (labels_start (arc_size * l.e)) l.arcs l.spans.spans)
