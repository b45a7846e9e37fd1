use Rattle.std.proofs.Common.{rules}
use Rattle.automata.specs.Calls.Drop.{mask_of}
use Rattle.automata.specs.TapePair.{tapes_of}
use Rattle.automata.specs.Tapes.{seconds}
use Rattle.table.specs.Pairs.{pairs_as}
use Rattle.join_steps.proofs.MaskFacts.{next_bit}
use Rattle.join_steps.proofs.mask.second_tapes.Goals as goal

pub loop-place-preserved : goal.loop-place-preserved
loop-place-preserved c = next_bit (seconds (tapes_of (pairs_as c.args.pairs))) c.loop-place.mask c.loop-place.place _ _ c.loop-place-test.true c.from.ensures c.is_second.ensures c.loop-place.invariant.0 c.loop-place.invariant.1

pub returns : goal.returns
unfolding mask_of
returns c = search rules
