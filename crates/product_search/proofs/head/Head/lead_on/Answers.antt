use Rattle.product_search.proofs.TakeFacts.{take_full, take_end}
use Rattle.product_search.proofs.head.Head.lead_on.Goals as goal

pub returns-then-self : goal.returns-then-self
returns-then-self c = take_full _ _ _ _ _ _ _ _ _ _ _ c.requires.0 c.requires.1 c.requires.2 c.requires.3 _ c.requires.4 _ _ c.pass_both-self.ensures _ _ c.after_first-self.ensures _ _ c.after_second-self.ensures c.if-self.true

pub returns : goal.returns
returns c = take_end _ _ _ _ _ _ _ _ _ _ _ c.requires.0 c.requires.1 c.requires.2 c.requires.3 _ c.requires.4 _ _ c.pass_both-self.ensures _ _ c.after_first-self.ensures _ _ c.after_second-self.ensures c.if-self.false
