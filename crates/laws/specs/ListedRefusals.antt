-- Which refusals a call can tell at all.
use Rattle.std.specs.Prelude.{◌⊎◌, ◌≡◌, List, ℕ, ◌≤◌}
use Rattle.automata.specs.Answer.{refused}
use Rattle.automata.specs.TapePair.{Pair, TapePair}
use Rattle.automata.specs.Memory.{Memory, decode_table}
use Rattle.automata.specs.Calls.Outcome.{Slices}
use Rattle.automata.specs.Calls.Read.{read_outcome}
use Rattle.automata.specs.Calls.Write.{write_outcome}
use Rattle.automata.specs.Calls.Intersect.{intersect_outcome}
use Rattle.automata.specs.Calls.Product.{product_outcome}
use Rattle.automata.specs.Calls.Join.{join_outcome}
use Rattle.automata.specs.Calls.Union.{union_outcome}
use Rattle.automata.specs.Calls.Project.{project_outcome}
use Rattle.automata.specs.Calls.Drop.{drop_outcome}
use Rattle.automata.specs.Calls.Lookup.{lookup_outcome}
use Rattle.automata.specs.Calls.LeastPath.{path_outcome, path_recorded}
use Rattle.automata.specs.Calls.Forecast.{forecast_outcome, forecast_recorded}

-- the refusals of a table: short, form, size, state
abbrev pub OfTable : ℕ → Type 0
OfTable n = (1 ≤ n) × (n ≤ 4)

-- those of document 01's list
abbrev pub Listed : ℕ → Type 0
Listed n = (1 ≤ n) × (n ≤ 13)

-- A table in memory is refused by 1 to 4 only, a text by these, 8 and 9 only, and every call by a number of the list
-- only; the lookup that tells the path also by 14 (document 02, 2.3).
pub record ListedRefusals : Type 0 where
  pub table : (m : Memory) (n : ℕ) → decode_table m ≡ refused n → OfTable n
  pub read : (x : List ℕ) (s : Slices) (n : ℕ) → (read_outcome x s).answer ≡ refused n → OfTable n ⊎ ((n ≡ 8) ⊎ (n ≡ 9))
  pub write : (m : Memory) (output : List ℕ) (n : ℕ) → (write_outcome m output).answer ≡ refused n → Listed n
  pub intersect : (m : Memory) (ps : List TapePair) (s : Slices) (work : List ℕ) (n : ℕ) → (intersect_outcome m ps s work).made.answer ≡ refused n → Listed n
  pub forecast : (m : Memory) (ps : List Pair) (work : List ℕ) (n : ℕ) → (forecast_outcome m ps work).answer ≡ refused n → Listed n
  pub forecast_recorded : (m : Memory) (ps : List Pair) (result work : List ℕ) (n : ℕ) → (forecast_recorded m ps result work).written.answer ≡ refused n → Listed n
  pub product : (a b : Memory) (s : Slices) (work : List ℕ) (n : ℕ) → (product_outcome a b s work).made.answer ≡ refused n → Listed n
  pub join : (a b : Memory) (ps : List TapePair) (p s : Slices) (work : List ℕ) (n : ℕ) → (join_outcome a b ps p s work).made.answer ≡ refused n → Listed n
  pub union : (a b : Memory) (s : Slices) (n : ℕ) → (union_outcome a b s).answer ≡ refused n → Listed n
  pub project : (m : Memory) (js : List ℕ) (s : Slices) (n : ℕ) → (project_outcome m js s).answer ≡ refused n → Listed n
  pub drop_tapes : (m : Memory) (mask : ℕ) (s : Slices) (n : ℕ) → (drop_outcome m mask s).answer ≡ refused n → Listed n
  pub lookup : (m : Memory) (text work : List ℕ) (n : ℕ) → (lookup_outcome m text work).answer ≡ refused n → Listed n
  pub path : (m : Memory) (text list work : List ℕ) (n : ℕ) → (path_outcome m text list work).answer ≡ refused n → Listed n ⊎ (n ≡ 14)
  pub path_recorded : (m : Memory) (text result list work : List ℕ) (n : ℕ) → (path_recorded m text result list work).found.answer ≡ refused n → Listed n ⊎ (n ≡ 14)
