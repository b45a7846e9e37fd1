use Rattle.intersect.proofs.SearchFacts.{searched, answerable}
use Rattle.intersect.proofs.step.reach.Goals as goal

pub answer_search-requires : goal.answer_search-requires
answer_search-requires c =
    answerable _ _ _ _ c.requires.0 _ _ _ c.explore-head.ensures _ _ c.requires.1

pub returns : goal.returns
returns c =
    c.answer_search.ensures _ _ (searched _ _ _ _ c.requires.0 _ _ _ c.explore-head.ensures)
