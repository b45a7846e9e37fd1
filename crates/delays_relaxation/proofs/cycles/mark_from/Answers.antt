use Rattle.delays_relaxation.proofs.LowerFacts.{endless_lowers}
use Rattle.delays_relaxation.proofs.cycles.mark_from.Goals as goal

pub returns-then-lessens : goal.returns-then-lessens
returns-then-lessens c =
    endless_lowers _ _ _ _ _ _ _ c.if-states-c.false c.requires.1 (c.lessens.ensures c.if-lessens.true) c.get16.ensures c.if-get16.true c.put16.ensures
