use Rattle.intersect_head.proofs.EntryFacts.{enter_fits}
use Rattle.intersect_head.proofs.VisitFacts.{arrives_at, arrives_new, arrives_full}
use Rattle.intersect_head.proofs.head.Head.arrive.Goals as goal

pub enter_config-requires : goal.enter_config-requires
enter_config-requires c = let q = c.requires in enter_fits _ _ _ _ _ _ _ _ q.0.explorable q.0.holds q.0.good q.0.stored q.1

pub returns-in-At : goal.returns-in-At
returns-in-At c = arrives_at _ _ _ _ _ c.requires.0 _ _ c.enter_config.ensures _ c.in-At.is _ _ c.note.ensures

pub returns-in-New : goal.returns-in-New
returns-in-New c = arrives_new _ _ _ _ _ c.requires.0 _ _ c.enter_config.ensures _ c.in-New.is _ _ c.note-in-New.ensures

pub returns-in-Full : goal.returns-in-Full
returns-in-Full c = arrives_full _ _ _ _ _ c.requires.0 _ _ c.enter_config.ensures c.in-Full.is
