use Rattle.std.proofs.Common.{map}
use Rattle.table.specs.Pairs.{pair_as}
use Rattle.pairs_calls.proofs.intersect.Goals as goal

pub intersect_judged-requires : goal.intersect_judged-requires
intersect_judged-requires c = record { pairs = map pair_as c.args.pairs.now; judged = c.judge_records-listed.ensures }

pub returns : goal.returns
returns c = c.intersect_judged.ensures (map pair_as c.args.pairs.now) c.judge_records-listed.ensures
