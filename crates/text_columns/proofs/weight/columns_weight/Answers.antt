use borrow.Author.Tests.{eq-eqb, ne_eqb}
use Rattle.text_columns.specs.Columns.{columns_weight}
use Rattle.text_columns.proofs.weight.columns_weight.Goals as goal

pub returns-then-column-eq45 : goal.returns-then-column-eq45
unfolding columns_weight
returns-then-column-eq45 c = rw (eq-eqb _ _ c.if-column-eq45.true)

pub returns-else-column-eq45 : goal.returns-else-column-eq45
unfolding columns_weight
returns-else-column-eq45 c = rw (c.columns_value.ensures, ne_eqb _ _ c.if-column-eq45.false)
