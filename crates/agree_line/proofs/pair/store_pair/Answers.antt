use Rattle.agree_line.proofs.PairFacts.{pair_stored}
use Rattle.agree_line.proofs.pair.store_pair.Goals as goal

pub returns : goal.returns
returns c = pair_stored _ _ c.args.at _ _ _ c.requires.1 c.byte_of.ensures c.byte_of-2.ensures c.byte_of-3.ensures
