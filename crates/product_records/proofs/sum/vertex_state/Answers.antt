use Rattle.product_records.proofs.SumFacts.{vertex_summed}
use Rattle.product_records.proofs.sum.vertex_state.Goals as goal

pub returns : goal.returns
returns c = vertex_summed _ _ _ _ _ _ _ c.place_state-a.ensures c.place_state-b.ensures c.add_weights.ensures c.add_weights-2.ensures
