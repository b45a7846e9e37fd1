use Rattle.lookup_cells.proofs.FillFacts.{weight_requires, weight_is}
use Rattle.lookup_cells.proofs.fill.least_weight.Goals as goal

pub least_from-requires : goal.least_from-requires
least_from-requires c = weight_requires _ _ _ _ _ _ c.requires _ c.spans_of-spans.ensures _ c.fill_cells.auto.work c.fill_cells.ensures

pub returns : goal.returns
returns c = weight_is _ _ _ _ _ _ c.requires _ c.spans_of-spans.ensures _ c.fill_cells.auto.work c.fill_cells.ensures _ c.least_from.ensures
