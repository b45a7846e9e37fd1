use Rattle.tomchoen.proofs.WordFacts.{made_told}
use Rattle.tomchoen.proofs.FitFacts.{drop_counts}
use Rattle.tomchoen.proofs.c.tomchoen_drop.Goals as goal

pub table_word-requires : goal.table_word-requires
table_word-requires c = drop_counts _ _ _ _ _ _ (rw c.lent-table.ensures at c.drop_tapes-answer.ensures)

pub returns : goal.returns
returns c = made_told _ _ _ _ _ (rw c.lent-table.ensures at c.drop_tapes-answer.ensures) c.table_word.ensures
