use Rattle.table.proofs.RecordFacts.{stored_absent, stored_present}
use Rattle.table.proofs.record.store_weight.Goals as goal

pub returns-in-None : goal.returns-in-None
returns-in-None c = stored_absent _ _ _ _ c.in-None.is c.put_flagged.ensures

pub returns-in-Some : goal.returns-in-Some
returns-in-Some c = stored_present _ _ _ _ _ c.in-Some.is c.put_flagged-in-Some.ensures
