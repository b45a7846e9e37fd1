use Rattle.agree_line.proofs.LineFacts.{line_judged}
use Rattle.agree_line.proofs.line.judge_line.Goals as goal

pub returns : goal.returns
returns c = line_judged _ _ c.requires.1 c.judge_pairs-pairs.result c.line_end.result c.both.result c.judge_pairs-pairs.ensures c.line_end.ensures c.both.ensures
