use Rattle.std.proofs.Common.{◌≡◌, drop, map}
use Rattle.automata.specs.TapePair.{tapes_of}
use Rattle.automata.specs.Tapes.{seconds}
use Rattle.table.specs.Pairs.{pair_as}
use Rattle.join_steps.proofs.mask.is_second.Given as goal

abbrev pub invariant-loop-p : goal.invariant-loop-p
invariant-loop-p l = seconds (tapes_of (map pair_as (drop l.p-index l.p-items))) l.place ≡ seconds (tapes_of (map pair_as l.p-items)) l.place
