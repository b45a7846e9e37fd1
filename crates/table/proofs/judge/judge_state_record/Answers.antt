use Rattle.table.proofs.JudgeFacts.{judged_state}
use Rattle.table.proofs.judge.judge_state_record.Goals as goal

pub returns : goal.returns
returns c = let s = c in judged_state s.args.at s.args.bytes.now _ _ _ c.judge_weight.ensures c.judge_weight-2.ensures c.both.ensures
