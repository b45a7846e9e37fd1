use Rattle.product_records.proofs.SumFacts.{side_ended, side_arc}
use Rattle.product_records.proofs.sum.side_weight.Goals as goal

pub returns-then-arc-eq-NO_ARC : goal.returns-then-arc-eq-NO_ARC
returns-then-arc-eq-NO_ARC c = side_ended _ _ _ _ _ _ c.requires c.if-arc-eq-NO_ARC.true c.place_state.ensures c.unwrap_or.ensures

pub returns-else-arc-eq-NO_ARC : goal.returns-else-arc-eq-NO_ARC
returns-else-arc-eq-NO_ARC c = side_arc _ _ _ _ _ c.requires c.if-arc-eq-NO_ARC.false c.arc_weight_at.ensures
