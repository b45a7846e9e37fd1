use mathlib.Core.Path.{◌≡◌}
use Prim.Native.Nat.{◌-◌, ◌≤◌}
use lib.ListN.{length}
use Rattle.automata.specs.Lists.{all}
use Rattle.automata.specs.Symbols.{is_symbol}
use Rattle.automata.specs.Answer.{forget, ok}
use Rattle.automata.specs.Calls.Lookup.{lines}
use Rattle.lookup_tuple.specs.Lines.{lines_at, every}
use Rattle.lookup_tuple.proofs.line.symbols_fit.Given as goal

abbrev pub invariant-loop-at : goal.invariant-loop-at
invariant-loop-at l = (l.at ≤ length l.text) × (forget (lines_at l.at l.text) ≡ ok tt) × (every (λ s. all is_symbol s) (lines_at l.at l.text) ≡ every (λ s. all is_symbol s) (lines l.text))

abbrev pub decreases-loop-at : goal.decreases-loop-at
decreases-loop-at l = length l.text - l.at
