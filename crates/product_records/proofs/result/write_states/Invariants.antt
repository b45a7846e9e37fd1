use mathlib.Core.Path.{◌≡◌}
use Prim.Native.Nat.{◌-◌, ◌*◌}
use Rattle.table.specs.Region.{splice}
use Rattle.product_records.specs.Sums.{vertices_at}
use Rattle.product_records.specs.Results.{state_records, Vertices}
use Rattle.automata.specs.Layout.{state_size, vertex_size}
use Rattle.product_records.proofs.result.write_states.Given as goal

abbrev pub invariant-loop-i : goal.invariant-loop-i
invariant-loop-i l =
    Vertices l.first_states l.second_states (vertices_at (vertex_size * l.i) (l.count - l.i) l.work)
    × (splice (state_size * l.i) (state_records l.first_states l.second_states (vertices_at (vertex_size * l.i) (l.count - l.i) l.work)) l.out
    ≡ splice 0 (state_records l.first_states l.second_states (vertices_at 0 l.count l.work)) l.initial.out)
