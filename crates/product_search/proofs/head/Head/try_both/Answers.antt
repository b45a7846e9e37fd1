use Rattle.product_search.proofs.BothFacts.{both_away, both_there}
use Rattle.product_search.proofs.head.Head.try_both.Goals as goal

pub returns-then-source_at-c : goal.returns-then-source_at-c
returns-then-source_at-c c = both_away _ _ _ _ _ _ _ _ c.requires.0 c.requires.3 _ c.source_at.ensures c.if-source_at-c.true

pub returns : goal.returns
returns c = both_there _ _ _ _ _ _ _ _ c.requires.0 c.requires.3 _ c.source_at.ensures c.if-source_at-c.false _ c.target_at-to.ensures _ _ c.pass_second.ensures
