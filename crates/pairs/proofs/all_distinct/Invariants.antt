use mathlib.Core.Path.{◌≡◌}
use lib.ListN.{drop}
use Rattle.automata.specs.IntersectCall.{distinct}
use Rattle.pairs.proofs.all_distinct.Given as goal

abbrev pub invariant-loop-i : goal.invariant-loop-i
invariant-loop-i l = distinct (drop l.i l.numbers) ≡ distinct l.numbers
