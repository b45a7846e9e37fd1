use Rattle.pairs.proofs.PairFacts.{read_list}
use Rattle.pairs.proofs.read_pairs.Goals as goal

pub returns : goal.returns
returns c = read_list _ _ _ _ _ c.pair_at.ensures c.pair_at-2.ensures c.pair_at-3.ensures c.pair_at-4.ensures
