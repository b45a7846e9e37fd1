use Rattle.path_search.proofs.TrailFacts.{Counting}
use Prim.Native.Nat.{◌-◌}
use Rattle.lookup_moves.specs.Distances.{cells_of}
use Rattle.path_search.proofs.trail.count_arcs.Given as goal

abbrev pub invariant-loop-count : goal.invariant-loop-count
invariant-loop-count l =
    Counting l.counts l.arcs l.spans (cells_of l.work) l.found l.end l.count l.at (l.found - l.count)
