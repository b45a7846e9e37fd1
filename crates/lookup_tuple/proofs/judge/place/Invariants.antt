use mathlib.Core.Path.{◌≡◌}
use Prim.Native.Nat.{◌≤◌}
use lib.ListN.{length, drop}
use Rattle.automata.specs.Answer.{ok}
use Rattle.automata.specs.Automaton.{Tuple}
use Rattle.automata.specs.Calls.Lookup.{lines}
use Rattle.lookup_tuple.specs.Lines.{lines_at}
use Rattle.lookup_tuple.proofs.PlaceFacts.{PlacedTo}
use Rattle.lookup_tuple.proofs.judge.place.Given as goal

abbrev pub invariant-loop-i : goal.invariant-loop-i
invariant-loop-i l =
    (l.at ≤ length l.text) × ((t : Tuple) → lines l.text ≡ ok t → (lines_at l.at l.text ≡ ok (drop l.i t)) × PlacedTo l.text t l.i l.starts l.lengths)
