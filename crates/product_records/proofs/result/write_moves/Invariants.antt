use mathlib.Core.Path.{◌≡◌}
use Prim.Native.Nat.{◌+◌, ◌-◌, ◌*◌}
use Rattle.table.specs.Region.{splice}
use Rattle.product_records.specs.Sums.{moves_at}
use Rattle.product_records.specs.Results.{move_records, Moves}
use Rattle.automata.specs.Layout.{arc_size, step_size}
use Rattle.product_records.proofs.result.write_moves.Given as goal

abbrev pub invariant-loop-i : goal.invariant-loop-i
invariant-loop-i l =
    Moves l.first_states l.first_arcs l.second_states l.second_arcs l.work (moves_at (l.base + step_size * l.i) (l.count - l.i) l.work)
    × (splice (arc_size * l.i) (move_records l.first_states l.first_arcs l.second_states l.second_arcs l.work l.first_tapes l.second_tapes (moves_at (l.base + step_size * l.i) (l.count - l.i) l.work)) l.out
    ≡ splice 0 (move_records l.first_states l.first_arcs l.second_states l.second_arcs l.work l.first_tapes l.second_tapes (moves_at l.base l.count l.work)) l.initial.out)
