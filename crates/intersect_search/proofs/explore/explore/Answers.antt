use Rattle.intersect_search.proofs.RunFacts.{may_begin, may_run, explored}
use Rattle.intersect_search.proofs.explore.explore.Goals as goal

pub begin-head-requires : goal.begin-head-requires
begin-head-requires c = may_begin _ _ _ _ c.requires _ c.closing_tables.ensures _ c.clear.ensures

pub run-requires : goal.run-requires
run-requires c = may_run _ _ _ _ c.requires _ c.closing_tables.ensures _ c.clear.ensures _ _ c.begin-head.ensures

pub returns : goal.returns
returns c =
    explored _ _ _ _ c.requires _ c.closing_tables.ensures _ c.clear.ensures _ _ c.begin-head.ensures _ _ c.run.ensures
