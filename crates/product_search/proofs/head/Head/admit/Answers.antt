use Rattle.product_search.proofs.StartFacts.{admits_at, admits_new, admits_full}
use Rattle.product_search.proofs.head.Head.admit.Goals as goal

pub returns-in-At : goal.returns-in-At
returns-in-At c = admits_at _ _ _ _ c.requires.0 c.requires.1 _ _ c.enter_vertex.ensures _ c.in-At.is

pub returns-in-New : goal.returns-in-New
returns-in-New c = admits_new _ _ _ _ c.requires.0 c.requires.1 _ _ c.enter_vertex.ensures _ c.in-New.is

pub returns-in-Full : goal.returns-in-Full
returns-in-Full c = admits_full _ _ _ _ c.requires.0 c.requires.1 _ _ c.enter_vertex.ensures c.in-Full.is
