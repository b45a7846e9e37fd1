use Rattle.text_lines.proofs.LineFacts.{state-line_judged}
use Rattle.text_lines.proofs.state.judge_state_line.Goals as goal

pub returns : goal.returns
returns c =
    state-line_judged _ c.requires c.judge_weight-initial.result c.judge_weight-last.result c.both-weights.result c.line_end.result c.both.result
    c.judge_weight-initial.ensures c.judge_weight-last.ensures c.both-weights.ensures c.line_end.ensures c.both.ensures
