use Rattle.product_search.proofs.BothFacts.{both-start, both-next, both_full, both_end}
use Rattle.product_search.proofs.head.Head.pass_both.Goals as goal

pub loop-i-init : goal.loop-i-init
loop-i-init c = both-start _ _ _ _ _ _ _ _ _ _ c.requires.0 c.requires.2 c.requires.3 c.requires.4 c.requires.1 _ c.first_arc-i.ensures

pub returns-then-self : goal.returns-then-self
returns-then-self c = both_full _ _ _ _ _ _ _ _ _ _ c.requires.0 c.requires.2 c.requires.3 c.requires.4 _ _ _ c.loop-i.invariant c.loop-i-test.true _ _ c.try_both-self.ensures c.if-self.true

pub loop-i-preserved : goal.loop-i-preserved
loop-i-preserved c = both-next _ _ _ _ _ _ _ _ _ _ c.requires.0 c.requires.2 c.requires.3 c.requires.4 _ _ _ c.loop-i.invariant c.loop-i-test.true _ _ c.try_both-self.ensures c.if-self.false

pub returns : goal.returns
returns c = both_end _ _ _ _ _ _ _ _ _ _ c.requires.0 c.requires.2 c.requires.3 c.requires.4 _ _ _ c.loop-i.invariant c.loop-i-test.false
