use mathlib.Core.Path.{◌≡◌, ◌∙◌}
use Prim.Native.Nat.{◌+◌, ◌-◌, ◌<◌}
use native.Mathlib.Omega.{arith}
use Rattle.table.proofs.JudgeFacts.{labels_turn, labels_end_lem}
use Rattle.table.proofs.judge.judge_labels.Goals as goal

pub loop-tape-preserved : goal.loop-tape-preserved
loop-tape-preserved c =
    let l = c.loop-tape in
    let more : 0 < c.args.tapes - l._tape = omega arith in
    let left : c.args.tapes - (l._tape + 1) ≡ c.args.tapes - l._tape - 1 = omega arith in
    (omega (arith, l.invariant.0), rw left (labels_turn _ l.at (c.args.tapes - l._tape) l.judged _ _ more c.judge_label.ensures c.both-judged.ensures ∙ l.invariant.1))

pub returns : goal.returns
returns c = let l = c.loop-tape in labels_end_lem _ l.at (c.args.tapes - l._tape) l.judged (omega arith) ∙ l.invariant.1
