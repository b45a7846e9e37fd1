use Rattle.tomchoen.proofs.WordFacts.{found_told}
use Rattle.tomchoen.proofs.WeightFacts.{lookup-weight}
use Rattle.tomchoen.proofs.c.tomchoen_lookup.Goals as goal

pub weight_word-requires : goal.weight_word-requires
weight_word-requires c = lookup-weight _ _ _ _ _ (rw c.lent-table.ensures at c.lookup-answer.ensures)

pub returns : goal.returns
returns c = found_told _ _ _ _ (rw c.lent-table.ensures at c.lookup-answer.ensures) c.weight_word.ensures
