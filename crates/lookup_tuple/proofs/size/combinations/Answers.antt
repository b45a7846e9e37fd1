use native.Mathlib.Omega.{arith}
use Rattle.lookup_tuple.proofs.PositionFacts.{positions_turn, positions_fit, positions_all}
use Rattle.lookup_tuple.proofs.size.combinations.Goals as goal

pub overflow_mul-all : goal.overflow_mul-all
overflow_mul-all c = omega (arith, positions_fit c.args.strings.lengths c.loop-n.n-index c.loop-n.all c.loop-n.invariant (omega (arith, c.requires.eight)) c.requires.eight c.requires.short)

pub loop-n-preserved : goal.loop-n-preserved
loop-n-preserved c = positions_turn c.args.strings.lengths c.loop-n.n-index c.loop-n.all c.loop-n.invariant (omega (arith, c.requires.eight))

pub returns : goal.returns
returns c = positions_all c.args.strings.lengths c.loop-n.n-index c.loop-n.all (omega (arith, c.requires.eight)) c.requires.eight c.requires.short c.loop-n.invariant
