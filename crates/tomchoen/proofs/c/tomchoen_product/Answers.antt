use Rattle.tomchoen.proofs.WordFacts.{built_told}
use Rattle.tomchoen.proofs.FitFacts.{product_counts}
use Rattle.tomchoen.proofs.c.tomchoen_product.Goals as goal

pub table_word-requires : goal.table_word-requires
table_word-requires c = product_counts _ _ _ _ _ _ _ _ (rw (c.lent-first.ensures, c.lent-second.ensures) at c.product-answer.ensures)

pub returns : goal.returns
returns c = built_told _ _ _ _ _ _ (rw (c.lent-first.ensures, c.lent-second.ensures) at c.product-answer.ensures) c.table_word.ensures
