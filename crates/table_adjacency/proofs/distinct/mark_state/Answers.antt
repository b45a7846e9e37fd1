use native.Mathlib.Omega.{arith}
use Rattle.table_adjacency.proofs.DistinctFacts.{state-start, state-goes, state-next}
use Rattle.table_adjacency.proofs.distinct.mark_state.Goals as goal

pub loop-j-init : goal.loop-j-init
loop-j-init c = let s = c in state-start _ _ _ _ _ _ _ _ s.requires.0 s.requires.2 s.requires.1

pub loop-j-smaller : goal.loop-j-smaller
loop-j-smaller c = let s = c in omega (arith, c.loop-j-test.true, state-goes _ _ _ _ _ _ _ _ s.requires.0 s.requires.2 _ _ _ c.loop-j.invariant c.loop-j-test.true)

pub loop-j-preserved : goal.loop-j-preserved
loop-j-preserved c = let s = c in state-next _ _ _ _ _ _ _ _ s.requires.0 s.requires.2 _ _ _ c.loop-j.invariant c.loop-j-test.true _ c.target_at-t.ensures _ _ c.mark_arc.ensures
