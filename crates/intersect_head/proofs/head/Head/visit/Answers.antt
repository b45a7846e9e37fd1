use Rattle.intersect_head.proofs.VisitFacts.{may_arrive, visits_nothing, visits_late, visits_to}
use Rattle.intersect_head.proofs.head.Head.visit.Goals as goal

pub arrive-requires : goal.arrive-requires
arrive-requires c = (may_arrive _ _ _ _ _ _ c.requires.0 _ c.offer.ensures.offers c.in-To.is, c.offer.ensures.bytes)

pub returns-in-Nothing : goal.returns-in-Nothing
returns-in-Nothing c = (visits_nothing _ _ _ _ _ _ c.requires.0 _ c.offer.ensures.offers c.in-Nothing.is, record { good = c.offer.ensures.offers.good; bytes = c.offer.ensures.bytes })

pub returns-in-Late : goal.returns-in-Late
returns-in-Late c = (visits_late _ _ _ _ _ _ c.requires.0 _ c.offer.ensures.offers c.in-Late.is, record { good = c.offer.ensures.offers.good; bytes = c.offer.ensures.bytes })

pub returns-in-To : goal.returns-in-To
returns-in-To c = (visits_to _ _ _ _ _ _ c.requires.0 _ c.offer.ensures.offers c.in-To.is _ _ c.arrive.ensures, record { good = c.offer.ensures.offers.good; bytes = c.offer.ensures.bytes })
