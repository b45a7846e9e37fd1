use mathlib.Core.Path.{sym, ◌∙◌}
use native.Mathlib.Omega.{arith}
use Rattle.text_columns.proofs.WriteFacts.{leading_turn, leading_done}
use Rattle.text_columns.proofs.decimal.write_leading.Goals as goal

pub loop-i-preserved : goal.loop-i-preserved
loop-i-preserved c = let l = c.loop-i in leading_turn c.args.at l.i l.rest _ _ c.loop-i-test.true (omega arith) c.leading_byte.ensures ∙ l.invariant

pub returns : goal.returns
returns c = let l = c.loop-i in sym (leading_done c.args.at l.i l.rest _ (omega arith)) ∙ l.invariant
