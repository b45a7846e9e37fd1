use mathlib.Core.Path.{◌≡◌}
use Prim.Native.Nat.{◌-◌, ◌*◌, ◌≤◌}
use lib.ListN.{length, drop}
use Rattle.automata.specs.Layout.{arc_size}
use Rattle.table.specs.Judging.{arcs_judged}
use Rattle.table.proofs.judge.judge_arcs.Given as goal

abbrev pub invariant-loop-i : goal.invariant-loop-i
invariant-loop-i l = (arc_size * l.i ≤ length l.arcs) × (arcs_judged l.tapes l.states (l.count - l.i) (drop (arc_size * l.i) l.arcs) ≡ arcs_judged l.tapes l.states l.count l.arcs)
