use mathlib.Core.Path.{◌≡◌}
use Prim.Native.Nat.{◌+◌, ◌-◌, ◌*◌}
use Rattle.automata.specs.Layout.{delays_size, state_size}
use Rattle.delays_relaxation.specs.Edges.{started}
use Rattle.delays_relaxation.proofs.start_delays.Given as goal

abbrev pub invariant-loop-q : goal.invariant-loop-q
invariant-loop-q l =
    started l.reversed (l.at + delays_size * l.q) (state_size * l.q) (l.states - l.q) l.bytes l.work ≡ started l.reversed l.at 0 l.states l.bytes l.initial.work
