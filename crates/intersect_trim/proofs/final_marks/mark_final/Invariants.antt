use mathlib.Core.Path.{◌≡◌}
use Prim.Native.Nat.{◌-◌, ◌*◌}
use mathlib.Core.List.{map}
use lib.ListN.{length}
use Rattle.table.specs.Region.{splice, rows}
use Rattle.intersect_trim.specs.Rows.{final_byte, Within}
use Rattle.automata.specs.Layout.{config_size}
use Rattle.intersect_trim.proofs.final_marks.mark_final.Given as goal

abbrev pub invariant-loop-k : goal.invariant-loop-k
invariant-loop-k l =
    let rest = rows (config_size * l.k) config_size (l.count - l.k) l.work in
    Within (length l.states) rest × (splice l.k (map (final_byte l.states) rest) l.marks ≡ splice 0 (map (final_byte l.states) (rows 0 config_size l.count l.work)) l.initial.marks)
