use Rattle.path.proofs.RecordFacts.{found_fits, call_recorded}
use Rattle.path.proofs.record.path_into.Goals as goal

pub record_told-requires : goal.record_told-requires
record_told-requires c = found_fits _ _ c.args.res.now _ _ _ _ _ c.find_cleared-answer.ensures

pub returns : goal.returns
returns c = call_recorded _ _ _ _ _ _ _ _ _ c.find_cleared-answer.ensures c.record_told.ensures
