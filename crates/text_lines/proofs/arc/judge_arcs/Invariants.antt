use mathlib.Core.Path.{◌≡◌}
use Prim.Native.Nat.{◌+◌, ◌-◌, ◌*◌, ◌≤◌}
use lib.ListN.{length, drop}
use Rattle.text_lines.specs.Lines.{arcs_judged}
use Rattle.text_lines.proofs.arc.judge_arcs.Given as goal

abbrev pub invariant-loop-i : goal.invariant-loop-i
invariant-loop-i l = (l.start + l.width * l.i ≤ length l.text) × (arcs_judged l.tapes l.states (l.count - l.i) (drop (l.start + l.width * l.i) l.text) ≡ arcs_judged l.tapes l.states l.count (drop l.start l.text))
