use Rattle.lookup_moves.proofs.SpanFacts.{SpannedFrom}
use Rattle.lookup_moves.proofs.spot.spans_of.Given as goal

abbrev pub invariant-loop-h : goal.invariant-loop-h
invariant-loop-h l = SpannedFrom l.strings.lengths l.h l.spans l.all
