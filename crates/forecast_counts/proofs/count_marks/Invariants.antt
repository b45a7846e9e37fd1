use mathlib.Core.Path.{◌≡◌}
use Prim.Native.Nat.{◌+◌, ◌≤◌}
use lib.ListN.{drop}
use Rattle.forecast_counts.specs.Symbols.{marked}
use Rattle.forecast_counts.proofs.count_marks.Given as goal

abbrev pub invariant-loop-mark : goal.invariant-loop-mark
invariant-loop-mark l = (l.found ≤ l.mark-index) × (l.found + marked (drop l.mark-index l.seen) ≡ marked l.seen)
