use Rattle.product_search.proofs.RunFacts.{may_begin, may_run, was_searched}
use Rattle.product_search.proofs.explore.search.Goals as goal

pub begin-head-requires : goal.begin-head-requires
begin-head-requires c = may_begin _ _ _ _ _ c.args.work.now c.requires.0 _ c.clear.ensures

pub run-requires : goal.run-requires
run-requires c = (may_run _ _ _ _ _ c.args.work.now c.requires.0 _ c.clear.ensures _ _ c.begin-head.ensures, c.requires.1)

pub returns : goal.returns
returns c =
    was_searched _ _ _ _ _ c.args.work.now c.requires.0 _ c.clear.ensures _ _ c.begin-head.ensures _ _ _ _ c.run.ensures
