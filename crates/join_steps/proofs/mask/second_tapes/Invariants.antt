use Rattle.std.proofs.Common.{◌≡◌, ◌<◌, ◌^◌}
use Rattle.automata.specs.TapePair.{tapes_of}
use Rattle.automata.specs.Tapes.{seconds}
use Rattle.automata.specs.Calls.Drop.{mask_bits}
use Rattle.table.specs.Pairs.{pairs_as}
use Rattle.join_steps.proofs.mask.second_tapes.Given as goal

abbrev pub invariant-loop-place : goal.invariant-loop-place
invariant-loop-place l = (l.mask ≡ mask_bits l.place (seconds (tapes_of (pairs_as l.pairs)))) × (l.mask < 2 ^ l.place)
