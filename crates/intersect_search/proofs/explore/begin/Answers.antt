use Rattle.intersect_search.proofs.BeginFacts.{begin_start, begin_requires, begin_next, begin_full, begin_end}
use Rattle.intersect_search.proofs.explore.begin.Goals as goal

pub loop-q-init : goal.loop-q-init
loop-q-init c = begin_start _ _ _

pub start-head-requires : goal.start-head-requires
start-head-requires c = begin_requires _ _ _ c.requires _ _ _ c.loop-q.invariant c.loop-q-test.true

pub returns-then-head : goal.returns-then-head
returns-then-head c = begin_full _ _ _ c.requires _ _ _ c.loop-q.invariant c.loop-q-test.true _ _ c.start-head.ensures c.if-head.true

pub loop-q-preserved : goal.loop-q-preserved
loop-q-preserved c = begin_next _ _ _ c.requires _ _ _ c.loop-q.invariant c.loop-q-test.true _ _ c.start-head.ensures c.if-head.false

pub returns : goal.returns
returns c = begin_end _ _ _ c.requires _ _ _ c.loop-q.invariant c.loop-q-test.false
