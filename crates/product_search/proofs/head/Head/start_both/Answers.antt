use Rattle.product_search.proofs.BeginFacts.{both_not, both_there}
use Rattle.product_search.proofs.head.Head.start_both.Goals as goal

pub returns-then-first_states-q-eq-ABSENT : goal.returns-then-first_states-q-eq-ABSENT
returns-then-first_states-q-eq-ABSENT c = both_not _ _ _ _ _ _ c.requires.0 c.requires.3 c.if-first_states-q-eq-ABSENT.true

pub returns : goal.returns
returns c = both_there _ _ _ _ _ _ c.requires.0 c.requires.3 c.if-first_states-q-eq-ABSENT.false _ _ c.start_all.ensures
