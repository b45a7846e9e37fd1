use Rattle.product_search.proofs.ExploreFacts.{indexed, explored_once, explored_again}
use Rattle.product_search.proofs.explore.explore_chained.Goals as goal

pub search-head-requires : goal.search-head-requires
search-head-requires c = (c.requires.0, indexed _ _ _ _ _ c.args.work.now c.requires.0 _ _ _ _ c.requires.2)

pub returns-then-head-plan : goal.returns-then-head-plan
returns-then-head-plan c = explored_once _ _ _ _ _ c.args.work.now c.requires.0 _ _ _ _ c.requires.2 c.requires.1 _ _ c.search-head.ensures c.if-head-plan.true

pub returns : goal.returns
returns c = explored_again _ _ _ _ _ c.args.work.now c.requires.0 _ _ _ _ c.requires.2 c.requires.1 _ _ c.search-head.ensures c.if-head-plan.false _ _ c.recount.ensures
