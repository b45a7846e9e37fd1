use Rattle.product_search.proofs.ArriveFacts.{arrives_moved}
use Rattle.product_search.proofs.FirstFacts.{first_away, first_there}
use Rattle.product_search.proofs.head.Head.try_first.Goals as goal

pub returns-then-source_at-c : goal.returns-then-source_at-c
returns-then-source_at-c c = first_away _ _ _ _ _ _ c.requires.0 c.requires.3 _ c.source_at.ensures c.if-source_at-c.true

pub returns : goal.returns
returns c = first_there _ _ _ _ _ _ c.requires.0 c.requires.3 _ c.source_at.ensures c.if-source_at-c.false _ c.target_at-first.ensures _ _ (arrives_moved _ _ _ _ _ _ _ _ _ c.moved.ensures c.arrive-reached.ensures)
