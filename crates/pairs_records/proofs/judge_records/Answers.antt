use Rattle.std.proofs.Common.{map}
use Rattle.table.specs.Pairs.{pair_as}
use Rattle.pairs_records.proofs.RecordFacts.{read_first}
use Rattle.pairs_records.proofs.judge_records.Goals as goal

pub returns : goal.returns
returns c = c.decide_keep.ensures (map pair_as c.args.pairs.now) c.args.tapes (read_first c.args.pairs.now _ c.read_records.ensures) c.all_records_within.ensures
