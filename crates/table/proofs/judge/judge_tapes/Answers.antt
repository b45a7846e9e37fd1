use Rattle.table.proofs.JudgeFacts.{judged_tapes}
use Rattle.table.proofs.judge.judge_tapes.Goals as goal

pub returns : goal.returns
returns c = let s = c in judged_tapes s.args.tapes s.args.labels.now _ _ _ _ s.requires.0 s.requires.1 c.judge_labels-used.ensures c.all_zero-unused.ensures c.demand.ensures c.both.ensures
