use Rattle.pairs.proofs.PairFacts.{moved_is}
use borrow.Author.Rules.{rules}
use Rattle.pairs.proofs.moved_pairs.Goals as goal

pub returns : goal.returns
returns c =
    moved_is c.args.by c.args.pairs _ _ _ _ c.requires.used_fit c.moved_pair.ensures c.moved_pair-2.ensures c.moved_pair-3.ensures c.moved_pair-4.ensures (search rules)
