use Rattle.join.proofs.call.join.Goals as goal

pub returns : goal.returns
returns c = c.join_judged.ensures _ c.judge_join_pairs-listed.ensures
