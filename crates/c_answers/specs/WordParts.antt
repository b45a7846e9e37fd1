-- What a caller in C takes from the number that a function answers with and from the bytes that it leaves, by the
-- macros of include/tomchoen.h.
use Rattle.std.specs.Prelude.{◌≡◌, List, [], ◌∷◌, ℕ, zero, suc, ◌+◌, ◌*◌, ◌/◌, ◌%◌, eqb, length, get_or}
use Rattle.std.proofs.Math.Option.{Option, none, some}
use Rattle.automata.specs.Lists.{if}
use Rattle.automata.specs.Answer.{Answer, ok, refused}
use Rattle.automata.specs.TapePair.{Pair, TapePair}
use Rattle.automata.specs.Memory.{Memory}
use Rattle.automata.specs.Calls.Outcome.{Slices, TableCounts}
use Rattle.automata.specs.Calls.Read.{read_outcome}
use Rattle.automata.specs.Calls.Write.{write_outcome}
use Rattle.automata.specs.Calls.Intersect.{intersect_outcome}
use Rattle.automata.specs.Calls.Product.{product_outcome}
use Rattle.automata.specs.Calls.Join.{join_outcome}
use Rattle.automata.specs.Calls.Union.{union_outcome}
use Rattle.automata.specs.Calls.Project.{project_outcome}
use Rattle.automata.specs.Calls.Drop.{drop_outcome}
use Rattle.automata.specs.Calls.Lookup.{lookup_outcome}
use Rattle.automata.specs.Calls.Work.{enough}
use Rattle.automata.specs.Calls.Forecast.{told_over, told_mixed, forecast_size, forecast_answer, forecast_recorded}
use Rattle.automata.specs.Calls.LeastPath.{entry_size, path_answer, told_size, path_recorded}
use Rattle.automata.specs.Forecast.{number, over, Forecast, mixed, needs}
use Rattle.automata.specs.LeastPath.{Account}
use Rattle.c_answers.specs.Words.{ToldRecorded, ToldPath, told_made, told_built, told_joined, told_written, told_found, told_recorded, told_path}

-- ---- the parts of a number

-- TOMCHOEN_REFUSAL: the low byte
abbrev pub low_byte : ℕ → ℕ
low_byte w = w % 256

-- TOMCHOEN_LENGTH and TOMCHOEN_WEIGHT_OF: what stands above it
abbrev pub above : ℕ → ℕ
above w = w / 256

-- TOMCHOEN_TAPES, TOMCHOEN_STATES, TOMCHOEN_ARCS
abbrev pub counts_in : ℕ → TableCounts
counts_in w = record { tapes = w / 256 % 256; states = w / 65536 % 65536; arcs = w / 4294967296 }

-- ---- numbers in lent bytes, the low byte first

-- TOMCHOEN_TWO_BYTES: the number in the two bytes at a place
abbrev pub two_bytes : ℕ → List ℕ → ℕ
two_bytes at bytes = get_or bytes at 0 + 256 * get_or bytes (at + 1) 0

-- TOMCHOEN_FOUR_BYTES: in four
abbrev pub four_bytes : ℕ → List ℕ → ℕ
four_bytes at bytes = two_bytes at bytes + 65536 * two_bytes (at + 2) bytes

-- TOMCHOEN_EIGHT_BYTES: in eight
abbrev pub eight_bytes : ℕ → List ℕ → ℕ
eight_bytes at bytes = four_bytes at bytes + 4294967296 * four_bytes (at + 4) bytes

-- so many values of one size, from a place on
unfoldable pub values_in : {A : Type 0} → (ℕ → List ℕ → A) → ℕ → ℕ → ℕ → List ℕ → List A
values_in value size at zero bytes = []
values_in value size at (suc n) bytes = value at bytes ∷ values_in value size (at + size) n bytes

-- ---- the answer that it tells

-- of a call that makes a table: the counts where the low byte is 0, else that refusal
unfoldable pub table_told : ℕ → Answer TableCounts
table_told w = if (eqb (low_byte w) 0) (ok (counts_in w)) (refused (low_byte w))

-- of `write`: the number of bytes
unfoldable pub bytes_told : ℕ → Answer ℕ
bytes_told w = if (eqb (low_byte w) 0) (ok (above w)) (refused (low_byte w))

-- x where the low byte is 0, none where it is 255, else that refusal
unfoldable pub or_none : {A : Type 0} → ℕ → A → Answer (Option A)
or_none w x = if (eqb (low_byte w) 0) (ok (some x)) (if (eqb (low_byte w) 255) (ok none) (refused (low_byte w)))

-- of `lookup`: the weight, or none
abbrev pub weight_told : ℕ → Answer (Option ℕ)
weight_told w = or_none w (above w)

-- TOMCHOEN_FORECAST, TOMCHOEN_DELAY_OF and TOMCHOEN_NUMBER_OF: the forecast in the record at a place
unfoldable pub forecast_in : ℕ → List ℕ → Forecast
forecast_in at result =
    if (eqb (two_bytes at result) told_mixed) mixed
    (needs (two_bytes (at + 2) result) (if (eqb (two_bytes at result) told_over) over (number (two_bytes (at + 4) result))))

-- of `forecast`: the forecasts in as many records as there are bytes for
unfoldable pub forecasts_told : ToldRecorded → Answer (List Forecast)
forecasts_told o =
    let w = o.written.word in
    if (eqb (low_byte w) 0) (ok (values_in forecast_in forecast_size 0 (above w / forecast_size) o.written.output)) (refused (low_byte w))

-- TOMCHOEN_PATH_WEIGHT, TOMCHOEN_PATH_START, TOMCHOEN_PATH_ARCS and TOMCHOEN_PATH_ARC: the weight and the path that
-- stand in a result and a list
abbrev pub account_in : List ℕ → List ℕ → Account ℕ
account_in result list = record {
  weight = eight_bytes 0 result;
  path = record { start = four_bytes 16 result; run = values_in two_bytes entry_size 0 (four_bytes 20 result) list };
}

-- of `path`: both, or none
abbrev pub path_told : ToldPath → Answer (Option (Account ℕ))
path_told o = or_none o.word (account_in o.result o.list)

-- The number with which a function of `tomchoen_*` answers, as its contract gives it, tells the answer of its call: the
-- counts, the number of bytes, the weight, none, or the refusal; with the result space of a forecast, its forecasts;
-- with the result space and the list of a path, its weight, its starting state and its arcs. One field for each of the
-- eleven.
pub record WordsTell : Type 0 where
  pub read : (text : List ℕ) (s : Slices) → table_told (told_made (read_outcome text s)).word ≡ (read_outcome text s).answer
  pub write : (m : Memory) (output : List ℕ) → bytes_told (told_written (write_outcome m output)).word ≡ (write_outcome m output).answer
  pub build : (m : Memory) (ps : List TapePair) (s : Slices) (work : List ℕ)
      → table_told (told_built (intersect_outcome m ps s work)).made.word ≡ (intersect_outcome m ps s work).made.answer
  pub product : (a b : Memory) (s : Slices) (work : List ℕ)
      → table_told (told_built (product_outcome a b s work)).made.word ≡ (product_outcome a b s work).made.answer
  pub join : (a b : Memory) (ps : List TapePair) (p s : Slices) (work : List ℕ)
      → table_told (told_joined (join_outcome a b ps p s work)).made.word ≡ (join_outcome a b ps p s work).made.answer
  pub union : (a b : Memory) (s : Slices) → table_told (told_made (union_outcome a b s)).word ≡ (union_outcome a b s).answer
  pub project : (m : Memory) (js : List ℕ) (s : Slices) → table_told (told_made (project_outcome m js s)).word ≡ (project_outcome m js s).answer
  pub drop : (m : Memory) (mask : ℕ) (s : Slices) → table_told (told_made (drop_outcome m mask s)).word ≡ (drop_outcome m mask s).answer
  pub lookup : (m : Memory) (text work : List ℕ) → weight_told (told_found (lookup_outcome m text work)).word ≡ (lookup_outcome m text work).answer
  pub forecast : (m : Memory) (ps : List Pair) (result work : List ℕ)
      → forecasts_told (told_recorded (forecast_recorded m ps result work)) ≡ forecast_answer m ps (enough (forecast_size * length ps) result) work
  pub path : (m : Memory) (text result list work : List ℕ)
      → path_told (told_path (path_recorded m text result list work)) ≡ path_answer m text (enough told_size result) list work
