use mathlib.Core.Path.{◌≡◌}
use Prim.Native.Nat.{◌-◌, ◌+◌, ◌*◌, ◌≤◌}
use lib.ListN.{length}
use Rattle.table.specs.Region.{splice}
use Rattle.automata.specs.Lists.{filter}
use Rattle.automata.specs.Layout.{step_size}
use Rattle.intersect_edges.specs.Edges.{edges_at, Joined}
use Rattle.intersect_trim.specs.Result.{both_marks, kept_arcs, ArcsWithin}
use Rattle.intersect_trim.proofs.result.write_arcs.Given as goal

abbrev pub invariant-loop-i : goal.invariant-loop-i
invariant-loop-i l =
    let rest = edges_at (l.base + step_size * l.i) (l.arcs - l.i) l.work in
    let all = edges_at l.base l.arcs l.work in
    (l.kept ≤ l.i) × Joined (length l.marks) rest × ArcsWithin (length l.inputs) rest
    × (l.to + length (kept_arcs l.marks l.ranks l.inputs rest) ≤ length l.out)
    × (splice l.to (kept_arcs l.marks l.ranks l.inputs rest) l.out ≡ splice 0 (kept_arcs l.marks l.ranks l.inputs all) l.initial.out)
    × (l.kept + length (filter (both_marks l.marks) rest) ≡ length (filter (both_marks l.marks) all))
