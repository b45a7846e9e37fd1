use mathlib.Core.Path.{◌≡◌}
use Prim.Native.Nat.{◌+◌, ◌-◌, ◌*◌}
use Rattle.product_records.specs.Sums.{moves_at}
use Rattle.product_records.specs.Results.{moves_fit, Moves}
use Rattle.automata.specs.Layout.{step_size}
use Rattle.product_records.proofs.judge.moves_fit.Given as goal

abbrev pub invariant-loop-i : goal.invariant-loop-i
invariant-loop-i l =
    Moves l.first_states l.first_arcs l.second_states l.second_arcs l.work (moves_at (l.base + step_size * l.i) (l.count - l.i) l.work)
    × (moves_fit l.first_states l.first_arcs l.second_states l.second_arcs l.work (moves_at (l.base + step_size * l.i) (l.count - l.i) l.work)
    ≡ moves_fit l.first_states l.first_arcs l.second_states l.second_arcs l.work (moves_at l.base l.count l.work))
