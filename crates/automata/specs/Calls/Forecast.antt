-- The call `forecast` (document 02, 2.1: space known beforehand). For Rattle it tells the forecasts by value, for C in
-- lent bytes.
use Rattle.std.specs.Prelude.{Bool, true, List, ◌++◌, map, ℕ, ◌*◌, length}
use Rattle.automata.specs.Lists.{and, concat}
use Rattle.automata.specs.Answer.{◌>>=◌, Answer, ok}
use Rattle.automata.specs.LittleEndian.{little}
use Rattle.automata.specs.Automaton.{size}
use Rattle.automata.specs.TapePair.{Pair}
use Rattle.automata.specs.Memory.{Memory, decode_table}
use Rattle.automata.specs.Forecast.{number, over, Forecast, mixed, needs}
use Rattle.automata.specs.ForecastCall.{forecast_call}
use Rattle.automata.specs.Calls.Outcome.{cleared, Written, print}
use Rattle.automata.specs.Calls.Work.{forecast_work, enough}

-- The table, then 5 and 6 of the pairs, then 13: the work space is too short, or there is no room for the forecasts. No
-- limit is read.
unfoldable pub forecast_answer : Memory → List Pair → Bool → List ℕ → Answer (List Forecast)
forecast_answer table ps room work = do
  A ← decode_table table
  forecast_call (and room (enough (forecast_work (size A)) work)) ps A

-- ---- by value

-- forecasts or a refusal, and the work space
pub record Foretold : Type 0 where
  pub answer : Answer (List Forecast)
  pub work : List ℕ

-- the same by its parts, as a contract names them
abbrev pub foretold_of : Answer (List Forecast) → List ℕ → Foretold
foretold_of answer work = record { answer = answer; work = work }

-- the whole outcome; what is told by value has room
unfoldable pub forecast_outcome : Memory → List Pair → List ℕ → Foretold
forecast_outcome table ps work = foretold_of (forecast_answer table ps true work) (cleared work)

-- ---- in bytes: three numbers of two bytes, the low byte first

-- what a record tells: a delay and a number, a delay and "over", or mixed; 0 is none of them
abbrev pub told_number : ℕ
told_number = 1

abbrev pub told_over : ℕ
told_over = 2

abbrev pub told_mixed : ℕ
told_mixed = 3

-- the bytes of a record
abbrev pub forecast_size : ℕ
forecast_size = 6

-- which it is, the delay, and the number; 0 where there is none
abbrev pub forecast_parts : ℕ → ℕ → ℕ → List ℕ
forecast_parts which delay n = (little 2).write which ++ (little 2).write delay ++ (little 2).write n

-- the record of a forecast
abbrev pub forecast_record : Forecast → List ℕ
forecast_record (needs d (number n)) = forecast_parts told_number d n
forecast_record (needs d over) = forecast_parts told_over d 0
forecast_record mixed = forecast_parts told_mixed 0 0

-- the records of several, in their order
abbrev pub forecast_records : List Forecast → List ℕ
forecast_records fs = concat (map forecast_record fs)

-- their number of bytes, or the refusal
abbrev pub record_bytes : Answer (List Forecast) → Answer ℕ
record_bytes a = a >>= λ fs. ok (length (forecast_records fs))

-- the number of bytes written or a refusal, the result space, and the work space
pub record Recorded : Type 0 where
  pub written : Written
  pub work : List ℕ

-- the same by its parts, as a contract names them
abbrev pub recorded_of : Answer ℕ → List ℕ → List ℕ → Recorded
recorded_of answer result work = record { written = record { answer = answer; output = result }; work = work }

-- The whole outcome: 13 also where the result space is shorter than the records of all pairs; "a refusal returns only
-- its number", the result space past the records keeps its bytes.
unfoldable pub forecast_recorded : Memory → List Pair → List ℕ → List ℕ → Recorded
forecast_recorded table ps result work =
    let answer = forecast_answer table ps (enough (forecast_size * length ps) result) work in
    record { written = print (answer >>= λ fs. ok (forecast_records fs)) result; work = cleared work }
