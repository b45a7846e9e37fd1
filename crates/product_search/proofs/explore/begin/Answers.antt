use Rattle.product_search.proofs.BeginFacts.{begin_next, begin_full, begin_end}
use Rattle.product_search.proofs.explore.begin.Goals as goal

pub returns-then-head : goal.returns-then-head
returns-then-head c = begin_full _ _ _ c.args.work.now c.requires _ _ _ c.loop-q.invariant c.loop-q-test.true _ _ c.start_both-head.ensures c.if-head.true

pub loop-q-preserved : goal.loop-q-preserved
loop-q-preserved c = begin_next _ _ _ c.args.work.now c.requires _ _ _ c.loop-q.invariant c.loop-q-test.true _ _ c.start_both-head.ensures c.if-head.false

pub returns : goal.returns
returns c = begin_end _ _ _ c.args.work.now c.requires _ _ _ c.loop-q.invariant c.loop-q-test.false
