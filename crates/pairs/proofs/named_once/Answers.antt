use Rattle.pairs.proofs.ListFacts.{joined_is, both-distinct}
use borrow.Author.Rules.{rules}
use Rattle.pairs.proofs.named_once.Goals as goal

pub returns : goal.returns
returns c =
    both-distinct c.args.pairs.used _ _ _ _ c.firsts_of.ensures c.seconds_of.ensures _ _
    (joined_is _ _ _ _ _ c.requires (search rules) (search rules) c.copy_into.ensures c.copy_into-2.ensures) c.all_distinct.ensures
