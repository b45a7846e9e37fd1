use Rattle.product_records.proofs.SumFacts.{move_summed}
use Rattle.product_records.proofs.sum.move_weight.Goals as goal

pub returns : goal.returns
returns c = move_summed _ _ _ _ _ _ _ _ _ c.load_vertex-v.ensures c.side_weight-first.ensures.0 c.side_weight-second.ensures.0
