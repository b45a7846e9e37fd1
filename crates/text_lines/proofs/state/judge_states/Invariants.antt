use mathlib.Core.Path.{◌≡◌}
use Prim.Native.Nat.{◌+◌, ◌-◌, ◌*◌, ◌≤◌}
use lib.ListN.{length, drop}
use Rattle.automata.specs.Layout.{state_width}
use Rattle.text_lines.specs.Lines.{states_judged}
use Rattle.text_lines.proofs.state.judge_states.Given as goal

abbrev pub invariant-loop-i : goal.invariant-loop-i
invariant-loop-i l = (l.start + state_width * l.i ≤ length l.text) × (states_judged (l.count - l.i) (drop (l.start + state_width * l.i) l.text) ≡ states_judged l.count (drop l.start l.text))
