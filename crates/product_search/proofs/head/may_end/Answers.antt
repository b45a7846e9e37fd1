use Rattle.product_search.proofs.EndFacts.{ends_by}
use Rattle.product_search.proofs.head.may_end.Goals as goal

pub returns-else-counts-q : goal.returns-else-counts-q
returns-else-counts-q c = ends_by _ _ _ c.requires c.if-counts-q.false
