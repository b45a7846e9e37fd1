use Rattle.table.proofs.SymbolFacts.{numbers, numbers_right}
use borrow.Author.Rules.{rules}
use Rattle.table.proofs.symbol.entry.Goals as goal

pub returns : goal.returns
unfolding numbers
returns c = numbers_right c.args.b (search rules)
