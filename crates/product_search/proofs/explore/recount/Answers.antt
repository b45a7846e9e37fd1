use Rattle.product_search.proofs.RunFacts.{chainable}
use Rattle.product_search.proofs.ExploreFacts.{markable, recounted}
use Rattle.product_search.proofs.explore.recount.Goals as goal

pub link_distinct-requires : goal.link_distinct-requires
link_distinct-requires c = (markable _ _ _ _ _ c.requires.0.first_sound c.requires.1.first, chainable _ _ _ c.requires.0.first_sound)

pub link_distinct-requires-2 : goal.link_distinct-requires-2
link_distinct-requires-2 c = (markable _ _ _ _ _ c.requires.0.second_sound c.requires.1.second, chainable _ _ _ c.requires.0.second_sound)

pub returns : goal.returns
returns c = recounted _ _ _ _ _ c.args.work.now c.requires.0 _ _ _ _ c.link_distinct.ensures c.link_distinct-2.ensures _ c.states_only.ensures _ _ _ c.search-head.ensures
