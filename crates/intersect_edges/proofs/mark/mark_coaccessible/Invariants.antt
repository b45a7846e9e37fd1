use mathlib.Core.Path.{◌≡◌}
use Prim.Native.Nat.{◌-◌}
use lib.ListN.{take, drop}
use Rattle.intersect_edges.specs.Edges.{edges_at}
use Rattle.intersect_edges.proofs.MarkFacts.{rounds_bytes}
use Rattle.intersect_edges.proofs.mark.mark_coaccessible.Given as goal

abbrev pub invariant-loop : goal.invariant-loop
invariant-loop l =
    (drop l.count l.marks ≡ drop l.count l.initial.marks)
    × (rounds_bytes (edges_at l.base l.arcs l.work) (l.count - l.counter) (take l.count l.marks) ≡ rounds_bytes (edges_at l.base l.arcs l.work) l.count (take l.count l.initial.marks))
