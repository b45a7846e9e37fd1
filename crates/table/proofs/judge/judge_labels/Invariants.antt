use mathlib.Core.Path.{◌≡◌}
use Prim.Native.Nat.{◌-◌, ◌*◌}
use lib.ListN.{drop}
use Rattle.automata.specs.Answer.{beside, forget}
use Rattle.automata.specs.Layout.{label_size}
use Rattle.table.specs.Answers.{judged_as}
use Rattle.table.specs.Judging.{labels_read}
use Rattle.table.proofs.judge.judge_labels.Given as goal

abbrev pub invariant-loop-tape : goal.invariant-loop-tape
invariant-loop-tape l = (l.at ≡ label_size * l._tape) × (forget (beside (judged_as l.judged) (labels_read (l.tapes - l._tape) (drop l.at l.labels))) ≡ forget (labels_read l.tapes l.labels))
