-- What the forecasts by value stand for.
use Rattle.std.specs.Prelude.{Result, Ok, Err, List, [], ◌∷◌, map, take}
use Rattle.automata.specs.Answer.{Answer, ok, refused}
use Rattle.automata.specs.Forecast as automata
use Rattle.automata.specs.Forecast.{number, over, mixed, needs}
use Rattle.table.specs.declared.answer.Refusal.{Refusal}
use Rattle.table.specs.Answers.{refusal_number}
use Rattle.forecast_records.specs.declared.Forecast.{Forecast}
use Rattle.forecast_records.specs.declared.Forecast.TheVariants.{Mixed, Over, Told}
use Rattle.forecast_records.specs.declared.ForecastList.{ForecastList}

-- the forecast of a pair
abbrev pub forecast_as : Forecast → automata.Forecast
forecast_as Mixed = mixed
forecast_as (Over d) = needs d over
forecast_as (Told d n) = needs d (number n)

-- a forecast that tells nothing, and none of four used
abbrev pub no_forecast : Forecast
no_forecast = Told 0 0

abbrev pub no_forecasts : ForecastList
no_forecasts = record { forecasts = no_forecast ∷ no_forecast ∷ no_forecast ∷ no_forecast ∷ []; used = 0 }

-- the forecasts that are used
abbrev pub forecasts_as : ForecastList → List automata.Forecast
forecasts_as l = map forecast_as (take l.used l.forecasts)

-- the answer of a call: forecasts, or a refusal
abbrev pub ForecastAnswer : Type 0
ForecastAnswer = Result ForecastList Refusal

-- what it stands for
abbrev pub answer_as : ForecastAnswer → Answer (List automata.Forecast)
answer_as (Ok l) = ok (forecasts_as l)
answer_as (Err r) = refused (refusal_number r)
