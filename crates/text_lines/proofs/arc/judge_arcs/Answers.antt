use mathlib.Core.Path.{◌≡◌, ◌∙◌}
use Prim.Native.Nat.{◌+◌, ◌-◌, ◌*◌, ◌<◌}
use native.Mathlib.Omega.{arith}
use Rattle.automata.specs.Layout.{arc_width, label_width}
use Rattle.table.proofs.AnswerFacts.{handed_on}
use Rattle.text_lines.proofs.SequenceFacts.{arcs_refused, arcs_turn, arcs_done}
use Rattle.text_lines.proofs.arc.judge_arcs.Goals as goal

pub returns-in_err-judge_arc_at : goal.returns-in_err-judge_arc_at
returns-in_err-judge_arc_at c =
    let l = c.loop-i in
    let width = arc_width + c.args.tapes * label_width in
    rw (handed_on _ _ c.from_residual.ensures.1) (arcs_refused c.args.tapes c.args.states _ (c.args.start + width * l.i) l.invariant.0 (c.args.count - l.i) (omega arith) _ c.in_err-judge_arc_at.ensures ∙ l.invariant.1)

pub loop-i-preserved : goal.loop-i-preserved
loop-i-preserved c =
    let l = c.loop-i in
    let width = arc_width + c.args.tapes * label_width in
    let more : 0 < c.args.count - l.i = omega arith in
    let t = arcs_turn c.args.tapes c.args.states _ (c.args.start + width * l.i) l.invariant.0 (c.args.count - l.i) more c.in_ok-judge_arc_at.ensures in
    let at : c.args.start + width * (l.i + 1) ≡ c.args.start + width * l.i + width = omega arith in
    let left : c.args.count - (l.i + 1) ≡ c.args.count - l.i - 1 = omega arith in
    rw (at, left) (t.0, t.1 ∙ l.invariant.1)

pub returns : goal.returns
returns c = let l = c.loop-i in arcs_done c.args.tapes c.args.states (c.args.count - l.i) _ (omega arith) ∙ l.invariant.1
