use native.Mathlib.Omega.{arith}
use Rattle.lookup_moves.proofs.SpanFacts.{spot_is}
use Rattle.lookup_moves.proofs.spot.spot_at.Goals as goal

pub returns : goal.returns
returns c = spot_is _ _ _ c.loop-h.h _ _ (omega arith) c.loop-h.invariant
