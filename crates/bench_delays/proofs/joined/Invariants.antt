use Prim.Native.Nat.{◌-◌, ◌*◌}
use mathlib.Core.Bool.{false}
use Rattle.automata.specs.Layout.{arc_size}
use Rattle.delays_relaxation.specs.Edges.{edges, Joined}
use Rattle.bench_delays.proofs.joined.Given as goal

abbrev pub invariant-loop-k : goal.invariant-loop-k
invariant-loop-k l = Joined l.states (edges false 0 0 (arc_size * l.k) (l.count - l.k) l.arcs) → Joined l.states (edges false 0 0 0 l.count l.arcs)
