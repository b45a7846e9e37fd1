use mathlib.Core.Path.{◌≡◌}
use Prim.Native.Nat.{◌-◌}
use Rattle.delays_relaxation.proofs.SweepFacts.{Bytes}
use Rattle.delays_relaxation.specs.Edges.{edges, rounds_of}
use Rattle.delays_relaxation.specs.Vector.{vector, Frame}
use Rattle.delays_relaxation.proofs.run_rounds.Given as goal

abbrev pub invariant-loop-round : goal.invariant-loop-round
invariant-loop-round l =
    (rounds_of l.diverging (edges l.reversed l.first l.second 0 l.count l.arcs) (l.states - l._round) (vector l.at l.states l.work) ≡ rounds_of l.diverging (edges l.reversed l.first l.second 0 l.count l.arcs) l.states (vector l.at l.states l.initial.work))
    × Frame l.at 2 l.states l.work l.initial.work × Bytes l.work
