use borrow.Author.Rules.{rules}
use Rattle.product_search.proofs.KeyFacts.{key_bytes}
use Rattle.product_search.proofs.vertex.key_of.Goals as goal

pub returns : goal.returns
returns c = rw (c.from.ensures, c.from-2.ensures) (key_bytes c.args.v (search rules) (search rules))
