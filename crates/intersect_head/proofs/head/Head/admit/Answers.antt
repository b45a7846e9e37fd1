use Rattle.intersect_head.proofs.EntryFacts.{enter_fits}
use Rattle.intersect_head.proofs.StartFacts.{admits_at, admits_new, admits_full}
use Rattle.intersect_head.proofs.head.Head.admit.Goals as goal

pub enter_config-requires : goal.enter_config-requires
enter_config-requires c = let q = c.requires in enter_fits _ _ _ _ _ _ _ _ q.0.explorable q.0.holds q.0.good q.0.stored q.1

pub returns-in-At : goal.returns-in-At
returns-in-At c = admits_at _ _ _ _ c.requires.0 _ _ c.enter_config.ensures _ c.in-At.is

pub returns-in-New : goal.returns-in-New
returns-in-New c = admits_new _ _ _ _ c.requires.0 _ _ c.enter_config.ensures _ c.in-New.is

pub returns-in-Full : goal.returns-in-Full
returns-in-Full c = admits_full _ _ _ _ c.requires.0 _ _ c.enter_config.ensures c.in-Full.is
