use Rattle.std.proofs.Common.{map}
use Rattle.table.specs.Pairs.{pair_as}
use Rattle.pairs_calls.proofs.join.Goals as goal

pub join_judged-requires : goal.join_judged-requires
join_judged-requires c = record { pairs = map pair_as c.args.pairs.now; judged = c.judge_join_records-listed.ensures }

pub returns : goal.returns
returns c = c.join_judged.ensures (map pair_as c.args.pairs.now) c.judge_join_records-listed.ensures
