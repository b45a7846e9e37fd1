use mathlib.Core.Path.{◌≡◌}
use Prim.Native.Nat.{◌-◌, ◌*◌}
use lib.ListN.{take, drop}
use Rattle.table.specs.Region.{splice}
use Rattle.tapes_records.specs.Rewritten.{rewritten, chosen_arc}
use Rattle.automata.specs.Layout.{arc_size}
use Rattle.tapes_records.proofs.choose.choose_arcs.Given as goal

abbrev pub invariant-loop-i : goal.invariant-loop-i
invariant-loop-i l =
    splice (arc_size * l.i) (rewritten (chosen_arc (take l.used l.tapes)) (l.count - l.i) (drop (arc_size * l.i) l.arcs)) l.arcs
    ≡ splice 0 (rewritten (chosen_arc (take l.used l.tapes)) l.count l.initial.arcs) l.initial.arcs
