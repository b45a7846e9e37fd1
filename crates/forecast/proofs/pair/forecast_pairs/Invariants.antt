use mathlib.Core.Path.{◌≡◌}
use mathlib.Core.List.{map}
use lib.ListN.{length, take}
use Rattle.automata.specs.TapePair.{tapes_of}
use Rattle.automata.specs.Memory.{table_of}
use Rattle.automata.specs.ForecastCall.{forecast_of}
use Rattle.table.specs.Answers.{memory}
use Rattle.table.specs.Pairs.{pair_as}
use Rattle.forecast_records.specs.Values.{forecast_as}
use Rattle.forecast.specs.Pairs.{Marked}
use Rattle.forecast.proofs.pair.forecast_pairs.Given as goal

abbrev pub invariant-loop-h : goal.invariant-loop-h
invariant-loop-h l =
    (length l.forecasts ≡ 4) × (map forecast_as (take l.h l.forecasts) ≡ map (forecast_of (table_of (memory l.table))) (tapes_of (map pair_as (take l.h l.pairs.pairs))))
    × Marked (memory l.table) l.work
