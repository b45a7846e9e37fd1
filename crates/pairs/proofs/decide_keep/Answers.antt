use Rattle.pairs.proofs.DecideFacts.{decides_keep}
use Rattle.pairs.proofs.decide_keep.Goals as goal

pub returns : goal.returns
returns c = decides_keep _ _ _ _ _ c.decide.ensures c.keep_once.ensures c.limits_fit.ensures
