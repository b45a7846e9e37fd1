use mathlib.Core.Path.{◌≡◌}
use Prim.Native.Nat.{◌-◌, ◌*◌}
use Rattle.automata.specs.Layout.{arc_size}
use Rattle.forecast_counts.specs.Symbols.{symbols_from, noted}
use Rattle.forecast_counts.proofs.note_arcs.Given as goal

abbrev pub invariant-loop-k : goal.invariant-loop-k
invariant-loop-k l = noted l.seen (symbols_from l.first l.second (arc_size * l.k) (l.count - l.k) l.arcs) ≡ noted l.initial.seen (symbols_from l.first l.second 0 l.count l.arcs)
