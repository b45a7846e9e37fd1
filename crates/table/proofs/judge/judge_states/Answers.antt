use mathlib.Core.Path.{◌≡◌, refl, ◌∙◌}
use Prim.Native.Nat.{◌+◌, ◌-◌, ◌*◌, ◌<◌}
use native.Mathlib.Omega.{arith}
use Rattle.automata.specs.Layout.{state_size}
use Rattle.table.proofs.AnswerFacts.{handed_on}
use Rattle.table.proofs.TableFacts.{states_stop, states_next, states_done}
use Rattle.table.proofs.judge.judge_states.Goals as goal

pub returns-in_err-judge_state_at : goal.returns-in_err-judge_state_at
returns-in_err-judge_state_at c =
    let l = c.loop-i in
    rw (handed_on _ _ c.from_residual.ensures.1) (states_stop _ (state_size * l.i) l.invariant.0 (c.args.count - l.i) (omega arith) _ c.in_err-judge_state_at.ensures _ refl ∙ l.invariant.1)

pub loop-i-preserved : goal.loop-i-preserved
loop-i-preserved c =
    let l = c.loop-i in
    let more : 0 < c.args.count - l.i = omega arith in
    let t = states_next _ (state_size * l.i) l.invariant.0 (c.args.count - l.i) more _ c.in_ok-judge_state_at.ensures refl in
    let at : state_size * (l.i + 1) ≡ state_size * l.i + state_size = omega arith in
    let left : c.args.count - (l.i + 1) ≡ c.args.count - l.i - 1 = omega arith in
    rw (at, left) (t.0, t.1 ∙ l.invariant.1)

pub returns : goal.returns
returns c = let l = c.loop-i in states_done (c.args.count - l.i) _ (omega arith) ∙ l.invariant.1
