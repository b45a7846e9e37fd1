use Rattle.product_search.proofs.SecondFacts.{second_start, second_next, second_full, second_end}
use Rattle.product_search.proofs.head.Head.pass_second.Goals as goal

pub loop-j-init : goal.loop-j-init
loop-j-init c = second_start _ _ _ _ _ _ _ _ _ c.requires.0 c.requires.2 c.requires.3 c.requires.1 _ c.first_arc-j.ensures

pub returns-then-self : goal.returns-then-self
returns-then-self c = second_full _ _ _ _ _ _ _ _ _ c.requires.0 c.requires.2 c.requires.3 _ _ _ c.loop-j.invariant c.loop-j-test.true _ _ c.try_second-self.ensures c.if-self.true

pub loop-j-preserved : goal.loop-j-preserved
loop-j-preserved c = second_next _ _ _ _ _ _ _ _ _ c.requires.0 c.requires.2 c.requires.3 _ _ _ c.loop-j.invariant c.loop-j-test.true _ _ c.try_second-self.ensures c.if-self.false

pub returns : goal.returns
returns c = second_end _ _ _ _ _ _ _ _ _ c.requires.0 c.requires.2 c.requires.3 _ _ _ c.loop-j.invariant c.loop-j-test.false
