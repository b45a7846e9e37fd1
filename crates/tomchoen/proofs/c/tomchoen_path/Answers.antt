use Rattle.tomchoen.proofs.WordFacts.{path-told}
use Rattle.tomchoen.proofs.c.tomchoen_path.Goals as goal

pub returns : goal.returns
returns c = path-told _ _ _ _ _ _ (rw c.lent-table.ensures at c.path_into-answer.ensures) c.path_word.ensures
