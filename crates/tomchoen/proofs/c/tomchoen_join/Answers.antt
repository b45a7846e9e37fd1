use Rattle.tomchoen.proofs.WordFacts.{joined-told}
use Rattle.tomchoen.proofs.FitFacts.{join_counts}
use Rattle.tomchoen.proofs.c.tomchoen_join.Goals as goal

pub table_word-requires : goal.table_word-requires
table_word-requires c = join_counts _ _ _ _ _ _ _ _ _ _ _ _ (rw (c.lent-first.ensures, c.lent-second.ensures) at c.join-answer.ensures)

pub returns : goal.returns
returns c = joined-told _ _ _ _ _ _ _ _ (rw (c.lent-first.ensures, c.lent-second.ensures) at c.join-answer.ensures) c.table_word.ensures
