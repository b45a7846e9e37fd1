use mathlib.Core.Path.{◌≡◌}
use Prim.Native.Nat.{◌-◌, ◌≤◌}
use lib.ListN.{length}
use Rattle.automata.specs.Calls.Lookup.{lines}
use Rattle.lookup_tuple.specs.Lines.{lines_at, counted}
use Rattle.lookup_tuple.proofs.line.count_lines.Given as goal

abbrev pub invariant-loop-at : goal.invariant-loop-at
invariant-loop-at l = (l.at ≤ length l.text) × (l.count ≤ l.at) × (counted (lines_at l.at l.text) l.count ≡ counted (lines l.text) 0)

abbrev pub decreases-loop-at : goal.decreases-loop-at
decreases-loop-at l = length l.text - l.at
