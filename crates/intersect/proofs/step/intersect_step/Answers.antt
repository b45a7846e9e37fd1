use Rattle.table.specs.Answers.{lent}
use Rattle.intersect.proofs.StepFacts.{step-answered}
use Rattle.intersect.proofs.step.intersect_step.Goals as goal

pub returns : goal.returns
returns c =
    step-answered (lent c.args.plan.counts c.args.states.now c.args.arcs.now) c.requires.sound _ _ _ _ _ c.reach.ensures
