use Rattle.table.proofs.RecordFacts.{stored_state}
use Rattle.table.proofs.record.store_state.Goals as goal

pub returns : goal.returns
returns c = stored_state c.args.at c.args.s c.args.bytes.now _ _ c.requires c.store_weight.ensures c.store_weight-2.ensures
