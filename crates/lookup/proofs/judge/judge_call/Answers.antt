use Rattle.table.specs.Answers.{memory}
use Rattle.lookup.proofs.JudgeFacts.{tuple_judged}
use Rattle.lookup.proofs.judge.judge_call.Goals as goal

pub returns : goal.returns
returns c = tuple_judged (memory c.args.table.now) _ _ c.in_ok-judge.ensures c.judge_tuple.ensures
