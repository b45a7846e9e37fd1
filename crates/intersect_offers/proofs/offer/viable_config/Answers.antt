use Rattle.intersect_offers.proofs.OfferFacts.{state_read, tells_viable}
use Rattle.intersect_offers.proofs.offer.viable_config.Goals as goal

pub viable-requires : goal.viable-requires
viable-requires c = (c.requires.0, rw (state_read _ _ c.get16.ensures) c.requires.3)

pub returns : goal.returns
returns c = tells_viable _ _ _ _ _ _ _ c.requires.0 c.requires.1 c.lengths_on-firsts.ensures c.lengths_on-seconds.ensures (rw (state_read _ _ c.get16.ensures) at c.viable.ensures)
