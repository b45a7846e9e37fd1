use Rattle.tomchoen.proofs.WordFacts.{made_told}
use Rattle.tomchoen.proofs.FitFacts.{union_counts}
use Rattle.tomchoen.proofs.c.tomchoen_union.Goals as goal

pub table_word-requires : goal.table_word-requires
table_word-requires c = union_counts _ _ _ _ _ _ (rw (c.lent-first.ensures, c.lent-second.ensures) at c.union-answer.ensures)

pub returns : goal.returns
returns c = made_told _ _ _ _ _ (rw (c.lent-first.ensures, c.lent-second.ensures) at c.union-answer.ensures) c.table_word.ensures
