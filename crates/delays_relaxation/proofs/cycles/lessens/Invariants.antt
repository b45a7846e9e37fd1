use Prim.Native.Nat.{◌*◌, ◌≤◌}
use Rattle.delays_relaxation.specs.Edges.{edges}
use Rattle.delays_relaxation.specs.Lowered.{Run}
use Rattle.delays_relaxation.proofs.cycles.lessens.Given as goal

abbrev pub invariant-loop-step : goal.invariant-loop-step
invariant-loop-step l = Run (edges l.reversed l.first l.second 0 l.count l.arcs) l.q l.p l.up l.down × (l.up ≤ 255 * l._step) × (l.down ≤ 255 * l._step)
