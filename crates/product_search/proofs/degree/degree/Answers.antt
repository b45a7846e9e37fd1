use Rattle.product_search.proofs.DegreeFacts.{count_start, count_next, count_end}
use Rattle.product_search.proofs.degree.degree.Goals as goal

pub loop-j-init : goal.loop-j-init
loop-j-init c = count_start _ _ _ _ c.requires _ c.first_arc-j.ensures

pub loop-j-preserved : goal.loop-j-preserved
loop-j-preserved c = count_next _ _ _ _ c.requires _ _ c.loop-j.invariant c.loop-j-test.true

pub returns : goal.returns
returns c = count_end _ _ _ _ c.requires _ _ c.loop-j.invariant c.loop-j-test.false
