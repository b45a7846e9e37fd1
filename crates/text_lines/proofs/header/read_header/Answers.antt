use mathlib.Core.Path.{refl}
use Rattle.text_columns.proofs.WeightFacts.{judged_and}
use Rattle.text_lines.proofs.HeaderFacts.{header_judged}
use Rattle.text_lines.proofs.header.read_header.Goals as goal

pub returns : goal.returns
returns c =
    rw c.and-4.ensures
    (header_judged _ c.requires c.read_decimal-tapes.result c.read_decimal-states.result c.read_decimal-arcs.result c.and.result c.and-2.result c.and-3.result c.both.result c.both-columns.result c.judge_counts-fits.result c.line_end.result c.both-2.result c.unwrap_or.result c.unwrap_or-2.result c.unwrap_or-3.result
    c.read_decimal-tapes.ensures c.read_decimal-states.ensures c.read_decimal-arcs.ensures (rw c.and.ensures (judged_and _)) (rw c.and-2.ensures (judged_and _)) (rw c.and-3.ensures (judged_and _)) c.both.ensures c.both-columns.ensures c.unwrap_or.ensures c.unwrap_or-2.ensures c.unwrap_or-3.ensures c.judge_counts-fits.ensures c.line_end.ensures c.both-2.ensures _ refl refl refl)
