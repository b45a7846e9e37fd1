use Rattle.lookup_moves.proofs.SpanFacts.{SpotTo}
use Rattle.lookup_moves.proofs.spot.spot_at.Given as goal

abbrev pub invariant-loop-h : goal.invariant-loop-h
invariant-loop-h l = SpotTo l.strings l.spans l.number l.h l.starts l.positions
