use Rattle.intersect_config.proofs.RowFacts.{start-written}
use borrow.Author.Rules.{rules}
use Rattle.intersect_config.proofs.config.start_row.Goals as goal

pub returns : goal.returns
returns c = start-written _ _ (search rules) c.put16.ensures
