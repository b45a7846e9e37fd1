use Rattle.lookup_cells.proofs.ChainFacts.{chain-start}
use Rattle.lookup_cells.proofs.chain.chain_arcs.Goals as goal

pub loop-e-init : goal.loop-e-init
loop-e-init c = chain-start _ _ _ c.requires.1 c.requires.3
