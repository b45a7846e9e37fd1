use Rattle.product_search.proofs.TakeFacts.{take_over}
use Rattle.product_search.proofs.head.Head.take_up.Goals as goal

pub returns-then-plan-self : goal.returns-then-plan-self
returns-then-plan-self c = take_over _ _ _ _ _ _ _ _ _ _ _ c.requires.0 c.requires.1 c.requires.2 c.requires.3 _ c.load_vertex-c.ensures _ c.moves_out-count.ensures c.if-plan-self.true
