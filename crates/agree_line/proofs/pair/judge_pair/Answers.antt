use Rattle.text_columns.proofs.WeightFacts.{judged_and}
use Rattle.agree_line.proofs.PairFacts.{pair_judged}
use Rattle.agree_line.proofs.pair.judge_pair.Goals as goal

pub returns : goal.returns
returns c =
    pair_judged _ c.requires c.read_decimal-first.result c.read_decimal-second.result c.read_decimal-limit.result c.and-3.result c.and.result c.and-2.result c.both-behind.result c.both.result
    c.read_decimal-first.ensures c.read_decimal-second.ensures c.read_decimal-limit.ensures (rw c.and-3.ensures (judged_and _)) (rw c.and.ensures (judged_and _)) (rw c.and-2.ensures (judged_and _)) c.both-behind.ensures c.both.ensures
