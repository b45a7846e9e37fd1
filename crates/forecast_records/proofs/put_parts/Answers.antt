use Rattle.forecast_records.proofs.RecordFacts.{parts_stored}
use Rattle.forecast_records.proofs.put_parts.Goals as goal

pub returns : goal.returns
returns c =
    parts_stored _ _ _ _ _ _ _ _ c.requires c.put16.ensures c.put16-2.ensures c.put16-3.ensures
