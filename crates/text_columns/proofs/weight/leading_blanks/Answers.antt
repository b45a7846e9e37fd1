use mathlib.Core.Path.{◌∙◌}
use native.Mathlib.Omega.{arith}
use Rattle.text_columns.proofs.WeightFacts.{flag_bound, blanks_turn, blanks_end}
use Rattle.text_columns.proofs.weight.leading_blanks.Goals as goal

pub loop-c-preserved : goal.loop-c-preserved
loop-c-preserved c = let l = c.loop-c in (omega (arith, flag_bound _ _ c.from-n.ensures), blanks_turn c.args.column.now l.c-index l.n l.blank _ (omega arith) c.from-n.ensures ∙ l.invariant.1)

pub returns : goal.returns
returns c = let l = c.loop-c in (blanks_end _ l.c-index l.n l.blank (omega arith) ∙ l.invariant.1, omega arith)
