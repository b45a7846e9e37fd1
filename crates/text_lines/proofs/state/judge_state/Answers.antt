use Rattle.text_lines.proofs.SequenceFacts.{state-short, state_judged}
use Rattle.text_lines.proofs.state.judge_state.Goals as goal

pub returns-then-text-at-lt-STATE_WIDTH : goal.returns-then-text-at-lt-STATE_WIDTH
returns-then-text-at-lt-STATE_WIDTH c = state-short _ c.args.at c.requires c.if-text-at-lt-STATE_WIDTH.true

pub returns : goal.returns
returns c = state_judged _ c.args.at c.requires c.judge_state_line.result c.if-text-at-lt-STATE_WIDTH.false c.judge_state_line.ensures
