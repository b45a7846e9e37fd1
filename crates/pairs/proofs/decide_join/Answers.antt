use Rattle.pairs.proofs.DecideFacts.{decides_join}
use Rattle.pairs.proofs.decide_join.Goals as goal

pub returns : goal.returns
returns c = decides_join _ _ _ _ _ c.decide.ensures c.join_once.ensures c.limits_fit.ensures
