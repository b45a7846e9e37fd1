use Prim.Native.Nat.{◌+◌, ◌-◌, ◌*◌}
use mathlib.Core.Path.{◌≡◌}
use Rattle.automata.specs.Layout.{pair_delays}
use Rattle.delays.specs.ClosingRegion.{closable_from}
use Rattle.delays.proofs.viable_at.Given as goal

abbrev pub invariant-loop-h : goal.invariant-loop-h
invariant-loop-h l = closable_from (l.at + pair_delays * l.h) l.h (l.used - l.h) l.firsts l.seconds l.work ≡ closable_from l.at 0 l.used l.firsts l.seconds l.work
