use Rattle.product_search.proofs.RunFacts.{run_none, run_start, run_next, run_full, run_end}
use Rattle.product_search.proofs.explore.run.Goals as goal

pub returns-then-start : goal.returns-then-start
returns-then-start c = run_none _ _ _ _ _ _ _ _ _ _ c.args.work.now c.requires.0 c.requires.1 c.if-start.true

pub loop-head-init : goal.loop-head-init
loop-head-init c = run_start _ _ _ _ _ _ _ _ _ _ c.args.work.now c.requires.0 c.requires.1 c.if-start.false

pub returns-then-head : goal.returns-then-head
returns-then-head c = run_full _ _ _ _ _ _ _ _ _ _ c.args.work.now c.requires.0 c.requires.1 _ _ c.loop-head.invariant c.loop-head-test.true _ _ c.take_up-head.ensures c.if-head.true

pub loop-head-preserved : goal.loop-head-preserved
loop-head-preserved c = run_next _ _ _ _ _ _ _ _ _ _ c.args.work.now c.requires.0 c.requires.1 _ _ c.loop-head.invariant c.loop-head-test.true _ _ c.take_up-head.ensures c.if-head.false

pub returns : goal.returns
returns c = run_end _ _ _ _ _ _ _ _ _ _ c.args.work.now c.requires.0 c.requires.1 _ _ c.loop-head.invariant c.loop-head-test.false
