use Rattle.table.proofs.TableFacts.{state-short, state_judged}
use Rattle.table.proofs.judge.judge_state_at.Goals as goal

pub returns-then-states-at-lt-STATE_SIZE : goal.returns-then-states-at-lt-STATE_SIZE
returns-then-states-at-lt-STATE_SIZE c = let s = c in state-short s.args.states.now s.args.at s.requires c.if-states-at-lt-STATE_SIZE.true

pub returns : goal.returns
returns c = let s = c in state_judged s.args.states.now s.args.at s.requires _ c.if-states-at-lt-STATE_SIZE.false c.judge_state_record.ensures
