use mathlib.Core.Path.{◌≡◌, refl, ◌∙◌}
use Prim.Native.Nat.{◌+◌, ◌-◌, ◌*◌, ◌<◌}
use native.Mathlib.Omega.{arith}
use Rattle.automata.specs.Layout.{arc_size}
use Rattle.table.proofs.AnswerFacts.{handed_on}
use Rattle.table.proofs.TableFacts.{arcs_stop, arcs_next, arcs_done}
use Rattle.table.proofs.judge.judge_arcs.Goals as goal

pub returns-in_err-judge_arc_at : goal.returns-in_err-judge_arc_at
returns-in_err-judge_arc_at c =
    let l = c.loop-i in
    rw (handed_on _ _ c.from_residual.ensures.1)
    (arcs_stop c.args.tapes c.args.states c.requires _ (arc_size * l.i) l.invariant.0 (c.args.count - l.i) (omega arith) _ c.in_err-judge_arc_at.ensures _ refl ∙ l.invariant.1)

pub loop-i-preserved : goal.loop-i-preserved
loop-i-preserved c =
    let l = c.loop-i in
    let more : 0 < c.args.count - l.i = omega arith in
    let t = arcs_next c.args.tapes c.args.states c.requires _ (arc_size * l.i) l.invariant.0 (c.args.count - l.i) more _ c.in_ok-judge_arc_at.ensures refl in
    let at : arc_size * (l.i + 1) ≡ arc_size * l.i + arc_size = omega arith in
    let left : c.args.count - (l.i + 1) ≡ c.args.count - l.i - 1 = omega arith in
    rw (at, left) (t.0, t.1 ∙ l.invariant.1)

pub returns : goal.returns
returns c = let l = c.loop-i in arcs_done c.args.tapes c.args.states (c.args.count - l.i) _ (omega arith) ∙ l.invariant.1
