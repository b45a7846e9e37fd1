use Rattle.path_search.proofs.TrailFacts.{Writing}
use Rattle.lookup_moves.specs.Distances.{cells_of}
use Rattle.path_search.proofs.trail.write_arcs.Given as goal

abbrev pub invariant-loop-left : goal.invariant-loop-left
invariant-loop-left l =
    Writing l.counts l.arcs l.spans (cells_of l.work) l.count l.end l.initial.list l.list l.at l.left
