use Rattle.product_search.proofs.ArriveFacts.{arrives_moved}
use Rattle.product_search.proofs.SecondFacts.{second_away, second_there}
use Rattle.product_search.proofs.head.Head.try_second.Goals as goal

pub returns-then-source_at-c : goal.returns-then-source_at-c
returns-then-source_at-c c = second_away _ _ _ _ _ _ _ _ c.requires.0 c.requires.3 _ c.source_at.ensures c.if-source_at-c.true

pub returns : goal.returns
returns c = second_there _ _ _ _ _ _ _ _ c.requires.0 c.requires.3 _ c.source_at.ensures c.if-source_at-c.false _ c.target_at-second.ensures _ _ (arrives_moved _ _ _ _ _ _ _ _ _ c.moved.ensures c.arrive-reached.ensures)
