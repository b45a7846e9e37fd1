use mathlib.Core.Path.{◌≡◌}
use mathlib.Core.List.{map}
use lib.ListN.{take}
use Rattle.automata.specs.Calls.Forecast.{forecast_records}
use Rattle.table.specs.Region.{splice}
use Rattle.forecast_records.specs.Values.{forecast_as}
use Rattle.forecast_records.proofs.put_forecasts.Given as goal

abbrev pub invariant-loop-h : goal.invariant-loop-h
invariant-loop-h l = l.res ≡ splice 0 (forecast_records (map forecast_as (take l.h l.list.forecasts))) l.initial.res
