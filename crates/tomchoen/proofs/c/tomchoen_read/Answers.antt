use Rattle.tomchoen.proofs.WordFacts.{made_told}
use Rattle.tomchoen.proofs.FitFacts.{read_counts_lem}
use Rattle.tomchoen.proofs.c.tomchoen_read.Goals as goal

pub table_word-requires : goal.table_word-requires
table_word-requires c = read_counts_lem _ _ _ _ _ c.read-answer.ensures

pub returns : goal.returns
returns c = made_told _ _ _ _ _ c.read-answer.ensures c.table_word.ensures
