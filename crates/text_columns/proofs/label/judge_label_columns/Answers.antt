use mathlib.Core.Path.{◌≡◌, ◌∙◌}
use Prim.Native.Nat.{◌+◌, ◌-◌, ◌*◌, ◌<◌}
use native.Mathlib.Omega.{arith}
use Rattle.automata.specs.Layout.{label_width}
use Rattle.text_columns.proofs.LabelFacts.{labels_turn, labels_end_lem}
use Rattle.text_columns.proofs.label.judge_label_columns.Goals as goal

pub loop-tape-preserved : goal.loop-tape-preserved
loop-tape-preserved c =
    let l = c.loop-tape in
    let more : 0 < c.args.tapes - l.tape = omega arith in
    let at : label_width * (l.tape + 1) ≡ label_width * l.tape + label_width = omega arith in
    let left : c.args.tapes - (l.tape + 1) ≡ c.args.tapes - l.tape - 1 = omega arith in
    rw (at, left) (labels_turn _ (label_width * l.tape) (c.args.tapes - l.tape) l.judged _ _ more c.judge_label_column.ensures c.both-judged.ensures ∙ l.invariant)

pub returns : goal.returns
returns c = let l = c.loop-tape in labels_end_lem _ (label_width * l.tape) (c.args.tapes - l.tape) l.judged (omega arith) ∙ l.invariant
