use native.Mathlib.Omega.{arith}
use Rattle.intersect_search.proofs.RunFacts.{run_none, run_start, run_requires, run_room, run_next, run_full, run_end}
use Rattle.intersect_search.proofs.explore.run_chained.Goals as goal

pub returns-then-start : goal.returns-then-start
returns-then-start c = run_none _ _ _ _ c.requires.0 c.if-start.true

pub loop-head-init : goal.loop-head-init
loop-head-init c = run_start _ _ _ _ c.requires.0 c.if-start.false

pub take_up-head-requires : goal.take_up-head-requires
take_up-head-requires c = (run_requires _ _ _ _ c.requires.0 _ _ c.loop-head.invariant c.loop-head-test.true, c.requires.1)

pub returns-then-head : goal.returns-then-head
returns-then-head c = run_full _ _ _ _ c.requires.0 _ _ c.loop-head.invariant c.loop-head-test.true _ _ c.take_up-head.ensures c.if-head.true

pub loop-head-smaller : goal.loop-head-smaller
loop-head-smaller c = omega (arith, run_room _ _ _ _ c.requires.0 _ _ c.loop-head.invariant c.loop-head-test.true, c.take_up-head.ensures.taken c.if-head.false)

pub loop-head-preserved : goal.loop-head-preserved
loop-head-preserved c = run_next _ _ _ _ c.requires.0 _ _ c.loop-head.invariant c.loop-head-test.true _ _ c.take_up-head.ensures c.if-head.false

pub returns : goal.returns
returns c = run_end _ _ _ _ c.requires.0 _ _ c.loop-head.invariant c.loop-head-test.false
