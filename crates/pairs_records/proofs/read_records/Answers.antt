use Rattle.pairs_records.proofs.RecordFacts.{read_is}
use Rattle.pairs_records.proofs.read_records.Goals as goal

pub returns : goal.returns
returns c = read_is _ _ _ _ _ c.pair_or.ensures c.pair_or-2.ensures c.pair_or-3.ensures c.pair_or-4.ensures
