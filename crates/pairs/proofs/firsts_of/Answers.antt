use borrow.Author.Rules.{rules}
use Rattle.table.specs.Pairs.{no_pair}
use Rattle.pairs.proofs.PairFacts.{side}
use Rattle.pairs.proofs.firsts_of.Goals as goal

pub returns : goal.returns
returns c =
    side (λ p. p.first) c.args.pairs.used 4 c.map.result c.args.pairs.pairs (search rules) (search rules) (λ i h. let f = (c.map.ensures.items.at i no_pair 0 h).2 in search rules)
