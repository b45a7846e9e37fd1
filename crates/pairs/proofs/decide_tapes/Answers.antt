use mathlib.Core.Path.{refl}
use Rattle.pairs.proofs.DecideFacts.{decides_tapes}
use Rattle.pairs.proofs.decide_tapes.Goals as goal

pub returns : goal.returns
returns c = decides_tapes _ _ _ _ _ c.decide.ensures c.keep_once.ensures refl
