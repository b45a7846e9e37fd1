use Rattle.tomchoen.proofs.WordFacts.{built_told}
use Rattle.tomchoen.proofs.FitFacts.{intersect_counts}
use Rattle.tomchoen.proofs.c.tomchoen_build.Goals as goal

pub table_word-requires : goal.table_word-requires
table_word-requires c = intersect_counts _ _ _ _ _ _ _ _ (rw c.lent-table.ensures at c.intersect-answer.ensures)

pub returns : goal.returns
returns c = built_told _ _ _ _ _ _ (rw c.lent-table.ensures at c.intersect-answer.ensures) c.table_word.ensures
