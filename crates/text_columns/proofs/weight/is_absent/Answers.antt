use mathlib.Core.Path.{sym, ◌∙◌}
use borrow.Author.Tests.{ne_eqb}
use Rattle.text_columns.proofs.WeightFacts.{absent_other, absent-last}
use Rattle.text_columns.proofs.weight.is_absent.Goals as goal

pub returns-then-leading_blanks-eq9 : goal.returns-then-leading_blanks-eq9
returns-then-leading_blanks-eq9 c = absent-last _ c.requires (sym c.leading_blanks.ensures.0 ∙ c.if-leading_blanks-eq9.true)

pub returns-else-leading_blanks-eq9 : goal.returns-else-leading_blanks-eq9
returns-else-leading_blanks-eq9 c = rw (ne_eqb _ _ c.if-leading_blanks-eq9.false) (absent_other _ c.requires (λ e. c.if-leading_blanks-eq9.false (c.leading_blanks.ensures.0 ∙ e)))
