use mathlib.Core.Path.{◌≡◌, ◌∙◌}
use Prim.Native.Nat.{◌+◌, ◌-◌, ◌*◌, ◌<◌}
use native.Mathlib.Omega.{arith}
use Rattle.automata.specs.Layout.{state_width}
use Rattle.table.proofs.AnswerFacts.{handed_on}
use Rattle.text_lines.proofs.SequenceFacts.{states_refused, states_turn, states_done}
use Rattle.text_lines.proofs.state.judge_states.Goals as goal

pub returns-in_err-judge_state : goal.returns-in_err-judge_state
returns-in_err-judge_state c =
    let l = c.loop-i in
    rw (handed_on _ _ c.from_residual.ensures.1) (states_refused _ (c.args.start + state_width * l.i) l.invariant.0 (c.args.count - l.i) (omega arith) _ c.in_err-judge_state.ensures ∙ l.invariant.1)

pub loop-i-preserved : goal.loop-i-preserved
loop-i-preserved c =
    let l = c.loop-i in
    let more : 0 < c.args.count - l.i = omega arith in
    let t = states_turn _ (c.args.start + state_width * l.i) l.invariant.0 (c.args.count - l.i) more c.in_ok-judge_state.ensures in
    let at : c.args.start + state_width * (l.i + 1) ≡ c.args.start + state_width * l.i + state_width = omega arith in
    let left : c.args.count - (l.i + 1) ≡ c.args.count - l.i - 1 = omega arith in
    rw (at, left) (t.0, t.1 ∙ l.invariant.1)

pub returns : goal.returns
returns c = let l = c.loop-i in states_done (c.args.count - l.i) _ (omega arith) ∙ l.invariant.1
