use mathlib.Core.Path.{◌≡◌}
use mathlib.Core.Bool.{false}
use Prim.Native.Nat.{◌-◌, ◌*◌, max}
use Rattle.automata.specs.Layout.{arc_size}
use Rattle.delays_relaxation.specs.Edges.{edges}
use Rattle.forecast_counts.specs.Counts.{marks_from, greatest_of}
use Rattle.forecast_counts.proofs.greatest_delay.Given as goal

abbrev pub invariant-loop-k : goal.invariant-loop-k
invariant-loop-k l =
    max l.best (greatest_of (marks_from 0 l.states l.work) (edges false l.first l.second (arc_size * l.k) (l.count - l.k) l.arcs)) ≡ greatest_of (marks_from 0 l.states l.work) (edges false l.first l.second 0 l.count l.arcs)
