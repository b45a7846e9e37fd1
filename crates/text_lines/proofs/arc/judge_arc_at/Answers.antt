use Rattle.text_lines.proofs.SequenceFacts.{arc-short, arc_at_judged}
use Rattle.text_lines.proofs.arc.judge_arc_at.Goals as goal

pub returns-then-text-at : goal.returns-then-text-at
returns-then-text-at c = arc-short c.args.tapes c.args.states _ c.args.at c.requires.0 c.if-text-at.true

pub returns : goal.returns
returns c = arc_at_judged c.args.tapes c.args.states _ c.args.at c.requires.0 c.judge_arc_line.result c.if-text-at.false c.judge_arc_line.ensures
