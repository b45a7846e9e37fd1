use mathlib.Core.Bool.{true, false}
use Rattle.text_columns.proofs.LabelFacts.{label_judged_lem}
use Rattle.text_columns.proofs.label.judge_label_column.Goals as goal

pub returns-then-label_fits : goal.returns-then-label_fits
returns-then-label_fits c = label_judged_lem _ _ true c.requires c.label_fits.ensures c.if-label_fits.true

pub returns-else-label_fits : goal.returns-else-label_fits
returns-else-label_fits c = label_judged_lem _ _ false c.requires c.label_fits.ensures c.if-label_fits.false
