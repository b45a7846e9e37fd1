use mathlib.Core.Path.{◌≡◌}
use Prim.Native.Nat.{◌-◌, ◌*◌}
use lib.ListN.{drop}
use Rattle.automata.specs.Answer.{beside, forget}
use Rattle.automata.specs.Layout.{label_width}
use Rattle.table.specs.Answers.{judged_as}
use Rattle.text_columns.specs.Columns.{labels_read}
use Rattle.text_columns.proofs.label.judge_label_columns.Given as goal

abbrev pub invariant-loop-tape : goal.invariant-loop-tape
invariant-loop-tape l = forget (beside (judged_as l.judged) (labels_read (l.tapes - l.tape) (drop (label_width * l.tape) l.labels))) ≡ forget (labels_read l.tapes l.labels)
