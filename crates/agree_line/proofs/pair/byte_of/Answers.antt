use Rattle.agree_line.proofs.PairFacts.{byte_kept}
use Rattle.agree_line.proofs.pair.byte_of.Goals as goal

pub returns : goal.returns
returns c = byte_kept _ c.read_decimal.result _ _ c.read_decimal.ensures c.unwrap_or.ensures c.saturate.ensures
