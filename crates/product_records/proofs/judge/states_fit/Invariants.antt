use mathlib.Core.Path.{◌≡◌}
use Prim.Native.Nat.{◌-◌, ◌*◌}
use Rattle.product_records.specs.Sums.{vertices_at}
use Rattle.product_records.specs.Results.{states_fit, Vertices}
use Rattle.automata.specs.Layout.{vertex_size}
use Rattle.product_records.proofs.judge.states_fit.Given as goal

abbrev pub invariant-loop-i : goal.invariant-loop-i
invariant-loop-i l =
    Vertices l.first_states l.second_states (vertices_at (vertex_size * l.i) (l.count - l.i) l.work)
    × (states_fit l.first_states l.second_states (vertices_at (vertex_size * l.i) (l.count - l.i) l.work) ≡ states_fit l.first_states l.second_states (vertices_at 0 l.count l.work))
