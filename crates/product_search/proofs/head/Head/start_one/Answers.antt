use Rattle.product_search.proofs.StartFacts.{one_not, one_there}
use Rattle.product_search.proofs.head.Head.start_one.Goals as goal

pub returns-then-states-q-eq-ABSENT : goal.returns-then-states-q-eq-ABSENT
returns-then-states-q-eq-ABSENT c = one_not _ _ _ _ _ _ c.requires.0 c.requires.3 c.if-states-q-eq-ABSENT.true

pub returns : goal.returns
returns c = one_there _ _ _ _ _ _ c.requires.0 c.requires.3 c.if-states-q-eq-ABSENT.false _ _ c.admit.ensures
