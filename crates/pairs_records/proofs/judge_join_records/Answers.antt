use Rattle.std.proofs.Common.{map}
use Rattle.table.specs.Pairs.{pair_as}
use Rattle.pairs_records.proofs.RecordFacts.{read_first}
use Rattle.pairs_records.proofs.judge_join_records.Goals as goal

pub returns : goal.returns
returns c = c.decide_join.ensures (map pair_as c.args.pairs.now) c.args.n c.args.m (read_first c.args.pairs.now _ c.read_records.ensures) c.all_records_within.ensures
