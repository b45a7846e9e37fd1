use mathlib.Core.Path.{◌≡◌}
use Prim.Native.Nat.{◌≤◌}
use Rattle.automata.specs.Forecast.{capped_sum}
use Rattle.forecast_counts.proofs.capped_sum.Given as goal

abbrev pub invariant-loop-term : goal.invariant-loop-term
invariant-loop-term l = (l.sum ≤ 65536) × (l.sum ≡ capped_sum 65536 l.symbols l._term)
