use Rattle.delays_relaxation.proofs.RunFacts.{visit_kept, visit_stored}
use Rattle.delays_relaxation.proofs.visit_edge.Goals as goal

pub returns-then-new-x : goal.returns-then-new-x
returns-then-new-x c =
    visit_kept _ _ _ _ _ _ _ _ c.get16-v.ensures c.through_edge-t.ensures c.get16-x.ensures c.improved-new.ensures c.if-new-x.true

pub returns : goal.returns
returns c =
    visit_stored _ _ _ _ _ _ _ _ c.get16-v.ensures c.through_edge-t.ensures c.get16-x.ensures c.improved-new.ensures _ c.if-new-x.false
    c.put16.ensures
