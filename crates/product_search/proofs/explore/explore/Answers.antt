use Rattle.product_search.proofs.RunFacts.{chainable}
use Rattle.product_search.proofs.explore.explore.Goals as goal

pub chain_arcs-requires : goal.chain_arcs-requires
chain_arcs-requires c = chainable _ _ _ c.requires.0.first_sound

pub chain_arcs-requires-2 : goal.chain_arcs-requires-2
chain_arcs-requires-2 c = chainable _ _ _ c.requires.0.second_sound
