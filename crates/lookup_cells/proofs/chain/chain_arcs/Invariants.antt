use Rattle.table.specs.Arcs.{target_of}
use Rattle.lookup_cells.specs.Chains.{ChainedFrom}
use Rattle.lookup_cells.proofs.chain.chain_arcs.Given as goal

abbrev pub invariant-loop-e : goal.invariant-loop-e
invariant-loop-e l = ChainedFrom (target_of l.arcs) l.e l.fn.counts.arcs l.index
