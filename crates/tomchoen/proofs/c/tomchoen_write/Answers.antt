use Rattle.tomchoen.proofs.WordFacts.{written-told}
use Rattle.tomchoen.proofs.FitFacts.{write_bytes}
use Rattle.tomchoen.proofs.c.tomchoen_write.Goals as goal

pub bytes_word-requires : goal.bytes_word-requires
bytes_word-requires c = write_bytes _ _ _ _ (rw c.lent-table.ensures at c.write-answer.ensures)

pub returns : goal.returns
returns c = written-told _ _ _ _ (rw c.lent-table.ensures at c.write-answer.ensures) c.bytes_word.ensures
