use mathlib.Core.Path.{◌≡◌}
use Rattle.automata.specs.Join.{within}
use Rattle.automata.specs.TapePair.{tapes_of}
use Rattle.pairs.specs.PairBytes.{pairs_of}
use Rattle.pairs.proofs.all_within.Given as goal

abbrev pub invariant-loop-pair : goal.invariant-loop-pair
invariant-loop-pair l =
    (l.pair-iterator.size ≡ 3) × (within l.n l.m (tapes_of (pairs_of l.pair-iterator.rest.now)) ≡ within l.n l.m (tapes_of (pairs_of l.bytes)))
