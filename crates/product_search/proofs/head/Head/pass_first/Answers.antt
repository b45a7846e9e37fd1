use Rattle.product_search.proofs.FirstFacts.{first-start, first_next, first_full, first_end}
use Rattle.product_search.proofs.head.Head.pass_first.Goals as goal

pub loop-i-init : goal.loop-i-init
loop-i-init c = first-start _ _ _ _ _ _ _ c.requires.0 c.requires.2 c.requires.3 c.requires.1 _ c.first_arc-i.ensures

pub returns-then-self : goal.returns-then-self
returns-then-self c = first_full _ _ _ _ _ _ _ c.requires.0 c.requires.2 c.requires.3 _ _ _ c.loop-i.invariant c.loop-i-test.true _ _ c.try_first-self.ensures c.if-self.true

pub loop-i-preserved : goal.loop-i-preserved
loop-i-preserved c = first_next _ _ _ _ _ _ _ c.requires.0 c.requires.2 c.requires.3 _ _ _ c.loop-i.invariant c.loop-i-test.true _ _ c.try_first-self.ensures c.if-self.false

pub returns : goal.returns
returns c = first_end _ _ _ _ _ _ _ c.requires.0 c.requires.2 c.requires.3 _ _ _ c.loop-i.invariant c.loop-i-test.false
