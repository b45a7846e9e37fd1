use mathlib.Core.Path.{◌≡◌}
use mathlib.Core.List.{map}
use lib.ListN.{drop}
use Rattle.automata.specs.TapePair.{tapes_of}
use Rattle.automata.specs.Join.{within}
use Rattle.table.specs.Pairs.{pair_as}
use Rattle.pairs_records.proofs.all_records_within.Given as goal

abbrev pub invariant-loop-p : goal.invariant-loop-p
invariant-loop-p l = within l.n l.m (tapes_of (map pair_as (drop l.p-index l.pairs))) ≡ within l.n l.m (tapes_of (map pair_as l.pairs))
