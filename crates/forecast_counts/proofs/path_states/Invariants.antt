use mathlib.Core.Path.{◌≡◌}
use Prim.Native.Nat.{◌+◌, ◌-◌, ◌*◌, ◌≤◌}
use Rattle.automata.specs.Trim.{rank}
use Rattle.automata.specs.Layout.{delays_size}
use Rattle.forecast_counts.specs.Counts.{marks_from}
use Rattle.forecast_counts.proofs.path_states.Given as goal

abbrev pub invariant-loop-q : goal.invariant-loop-q
invariant-loop-q l = (l.found ≤ l.q) × (l.found + rank (marks_from (delays_size * l.q) (l.states - l.q) l.work) (l.states - l.q) ≡ rank (marks_from 0 l.states l.work) l.states)
