use mathlib.Core.Path.{refl}
use native.Mathlib.Omega.{arith}
use Rattle.delays.proofs.PairFacts.{pairs_turn}
use Rattle.delays.proofs.close_pairs.Goals as goal

pub loop-h-preserved : goal.loop-h-preserved
loop-h-preserved c = pairs_turn _ _ _ _ c.args.pairs.pairs _ _ c.loop-h.h _ _ _ (omega arith) (omega arith) c.loop-h.invariant refl c.close_pair.ensures
