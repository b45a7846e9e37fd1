use mathlib.Core.Path.{◌≡◌}
use Prim.Native.Nat.{◌*◌}
use lib.ListN.{drop}
use Rattle.lookup_tuple.specs.Positions.{positions}
use Rattle.lookup_tuple.proofs.size.combinations.Given as goal

abbrev pub invariant-loop-n : goal.invariant-loop-n
invariant-loop-n l = l.all * positions (drop l.n-index l.fn.strings.lengths) ≡ positions l.fn.strings.lengths
