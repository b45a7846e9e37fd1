use mathlib.Core.Path.{◌≡◌}
use Prim.Native.Nat.{◌-◌, ◌*◌}
use Rattle.automata.specs.Layout.{delays_size}
use Rattle.forecast_counts.specs.Counts.{both_from}
use Rattle.forecast_counts.proofs.meets_both.Given as goal

abbrev pub invariant-loop-q : goal.invariant-loop-q
invariant-loop-q l = both_from (delays_size * l.q) (l.states - l.q) l.work ≡ both_from 0 l.states l.work
