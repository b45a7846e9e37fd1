use mathlib.Core.Path.{◌≡◌}
use Prim.Native.Nat.{◌-◌, ◌≤◌}
use lib.Dec.{leb}
use lib.ListN.{length}
use Rattle.automata.specs.Answer.{forget, ok}
use Rattle.automata.specs.Calls.Lookup.{lines}
use Rattle.automata.specs.Limits.{max_string}
use Rattle.lookup_tuple.specs.Lines.{lines_at, every}
use Rattle.lookup_tuple.proofs.line.sizes_fit.Given as goal

abbrev pub invariant-loop-at : goal.invariant-loop-at
invariant-loop-at l = (l.at ≤ length l.text) × (forget (lines_at l.at l.text) ≡ ok tt) × (every (λ s. leb (length s) max_string) (lines_at l.at l.text) ≡ every (λ s. leb (length s) max_string) (lines l.text))

abbrev pub decreases-loop-at : goal.decreases-loop-at
decreases-loop-at l = length l.text - l.at
