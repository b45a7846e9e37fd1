use Rattle.search_chains.proofs.EntryFacts.{clear_next}
use Rattle.search_chains.proofs.clear.Goals as goal

pub loop-b-preserved : goal.loop-b-preserved
loop-b-preserved c = clear_next _ _ _ _ _ _ c.loop-b.invariant c.requires.1 c.requires.0 c.loop-b-test.true _ c.put16.ensures
