use mathlib.Core.Path.{◌≡◌}
use Prim.Native.Nat.{◌-◌, ◌*◌, ◌≤◌}
use lib.ListN.{length, drop}
use Rattle.automata.specs.Layout.{state_size}
use Rattle.table.specs.Judging.{states_judged}
use Rattle.table.proofs.judge.judge_states.Given as goal

abbrev pub invariant-loop-i : goal.invariant-loop-i
invariant-loop-i l = (state_size * l.i ≤ length l.states) × (states_judged (l.count - l.i) (drop (state_size * l.i) l.states) ≡ states_judged l.count l.states)
