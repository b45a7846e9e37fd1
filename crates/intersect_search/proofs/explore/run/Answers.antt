use Rattle.intersect_search.proofs.RunFacts.{chainable}
use Rattle.intersect_search.proofs.explore.run.Goals as goal

pub chain_arcs-requires : goal.chain_arcs-requires
chain_arcs-requires c = chainable _ _ _ _ c.requires.explorable
