-- The outcome of the call in lent bytes, by its answer.
use Rattle.std.specs.Prelude.{List, ℕ, ◌*◌, ◌≤◌, length}
use Rattle.automata.specs.Answer.{Answer, ok, refused}
use Rattle.automata.specs.Forecast.{Forecast}
use Rattle.automata.specs.Calls.Outcome.{overwrite}
use Rattle.automata.specs.Calls.Forecast.{forecast_size, forecast_records}

-- the records of the forecasts fit so many bytes
abbrev pub Recordable : Answer (List Forecast) → ℕ → Type 0
Recordable (ok fs) size = forecast_size * length fs ≤ size
Recordable (refused n) size = Unit {0}

-- the result space with the records over its front; refused, it keeps its bytes
abbrev pub recorded : Answer (List Forecast) → List ℕ → List ℕ
recorded (ok fs) result = overwrite (forecast_records fs) result
recorded (refused n) result = result
