use Rattle.product_search.proofs.DegreeFacts.{moves_counted}
use Rattle.product_search.proofs.degree.moves_out.Goals as goal

pub returns : goal.returns
returns c = moves_counted _ _ _ _ _ _ _ _ _ _ c.degree-first.ensures c.degree-second.ensures _ _ c.may_end.ensures c.may_end-2.ensures _ _ c.only_if-after_first.ensures c.only_if-after_second.ensures
