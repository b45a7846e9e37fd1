use mathlib.Core.Path.{◌∙◌}
use Rattle.lookup_tuple.proofs.LineFacts.{line-starts, line_turn}
use Rattle.lookup_tuple.proofs.line.line_end.Goals as goal

pub loop-i-init : goal.loop-i-init
loop-i-init c = line-starts _ _

pub loop-i-preserved : goal.loop-i-preserved
loop-i-preserved c = line_turn _ _ c.loop-i.i c.loop-i.auto.i c.loop-i-test.true c.if-text-i-eq-NEWLINE.false ∙ c.loop-i.invariant
