use Rattle.text_lines.proofs.ArcFacts.{arc-line_judged}
use Rattle.text_lines.proofs.arc.judge_arc_line.Goals as goal

pub returns : goal.returns
returns c =
    arc-line_judged c.args.tapes c.args.states _ c.requires c.read_state_number-source.result c.read_state_number-target.result c.read_present-weight.result c.judge_label_columns-labels.result c.line_end.result c.judge_arc.result
    c.read_state_number-source.ensures c.read_state_number-target.ensures c.read_present-weight.ensures c.judge_label_columns-labels.ensures c.line_end.ensures c.judge_arc.ensures
