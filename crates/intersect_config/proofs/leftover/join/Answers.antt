use Rattle.intersect_config.proofs.StripFacts.{joined_is}
use borrow.Author.Rules.{rules}
use Rattle.intersect_config.proofs.leftover.join.Goals as goal

pub returns : goal.returns
returns c = let s = c in joined_is s.args.n s.args.k _ _ _ s.requires.0 s.requires.1 (search rules) (search rules) c.copy_into.ensures
