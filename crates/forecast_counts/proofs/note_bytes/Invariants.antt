use mathlib.Core.Path.{◌≡◌}
use mathlib.Core.List.{map}
use lib.ListN.{drop}
use Rattle.automata.specs.TapePair.{reading}
use Rattle.forecast_counts.specs.Symbols.{noted}
use Rattle.forecast_counts.proofs.note_bytes.Given as goal

abbrev pub invariant-loop-b : goal.invariant-loop-b
invariant-loop-b l = noted l.seen (map reading (drop l.b-index l.label)) ≡ noted l.initial.seen (map reading l.label)
