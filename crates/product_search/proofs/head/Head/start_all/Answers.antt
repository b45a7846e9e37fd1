use Rattle.product_search.proofs.StartFacts.{all-next, all_full}
use Rattle.product_search.proofs.head.Head.start_all.Goals as goal

pub returns-then-self : goal.returns-then-self
returns-then-self c = all_full _ _ _ _ _ c.requires.0 c.requires.2 _ _ _ c.loop-q.invariant c.loop-q-test.true _ _ c.start_one-self.ensures c.if-self.true

pub loop-q-preserved : goal.loop-q-preserved
loop-q-preserved c = all-next _ _ _ _ _ c.requires.0 c.requires.2 _ _ _ c.loop-q.invariant c.loop-q-test.true _ _ c.start_one-self.ensures c.if-self.false
