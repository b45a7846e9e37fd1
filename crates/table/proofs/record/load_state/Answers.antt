use Rattle.table.proofs.RecordFacts.{state_at_lem}
use Rattle.table.proofs.record.load_state.Goals as goal

pub returns : goal.returns
returns c = state_at_lem c.args.at c.args.bytes.now _ _ c.load_weight.ensures c.load_weight-2.ensures
