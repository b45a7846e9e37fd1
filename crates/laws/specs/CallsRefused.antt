-- The cases in which each public call refuses, on bytes: a table that is lent is judged first, then what the call asks.
use Rattle.std.specs.Prelude.{◌≡◌, ◌↔◌, true, List, ℕ, ◌*◌, length}
use Rattle.automata.specs.Lists.{and}
use Rattle.automata.specs.Answer.{ok, refused}
use Rattle.automata.specs.OrderedSum.{ℕ_sum}
use Rattle.automata.specs.Automaton.{Automaton, size}
use Rattle.automata.specs.Table.{weight_fits}
use Rattle.automata.specs.TapePair.{Pair, TapePair}
use Rattle.automata.specs.Memory.{Memory, decode_table}
use Rattle.automata.specs.Calls.Outcome.{Slices, space_of}
use Rattle.automata.specs.Calls.Work.{build_work, product_work, forecast_work, enough}
use Rattle.automata.specs.Calls.Read.{read_outcome}
use Rattle.automata.specs.Calls.Intersect.{intersect_outcome}
use Rattle.automata.specs.Calls.Product.{product_outcome}
use Rattle.automata.specs.Calls.Join.{lent_to, join_outcome}
use Rattle.automata.specs.Calls.Union.{union_outcome}
use Rattle.automata.specs.Calls.Project.{project_outcome}
use Rattle.automata.specs.Calls.Drop.{in_mask, drop_outcome}
use Rattle.automata.specs.Calls.Write.{write_outcome}
use Rattle.automata.specs.Calls.Lookup.{lookup_outcome}
use Rattle.automata.specs.Calls.LeastPath.{path_outcome, told_size, path_recorded}
use Rattle.automata.specs.Calls.Forecast.{forecast_outcome, forecast_size, forecast_recorded}
use Rattle.laws.specs.TableRefused.{ReadRefused, TableRefused}
use Rattle.laws.specs.Refused.{BuildCallRefused, ForecastRefused, ProductCallRefused, JoinRefused, UnionRefused, ProjectRefused, DropRefused, WriteRefused, LookupRefused, PathRefused}

-- Why a call on one table refuses: the table is refused, else the call refuses it.
pub data OneTableRefused (m : Memory) (why : Automaton ℕ → ℕ → Type 0) : ℕ → Type 0 where
  bad_table : (n : ℕ) → TableRefused m n → OneTableRefused m why n
  good_table : (A : Automaton ℕ) → decode_table m ≡ ok A → (n : ℕ) → why A n → OneTableRefused m why n

-- Why a call on two tables refuses: the first is refused, else the second, else the call refuses them.
pub data TwoTablesRefused (a b : Memory) (why : Automaton ℕ → Automaton ℕ → ℕ → Type 0) : ℕ → Type 0 where
  bad_first : (n : ℕ) → TableRefused a n → TwoTablesRefused a b why n
  bad_second : (A : Automaton ℕ) → decode_table a ≡ ok A → (n : ℕ) → TableRefused b n → TwoTablesRefused a b why n
  good_tables : (A B : Automaton ℕ) → decode_table a ≡ ok A → decode_table b ≡ ok B → (n : ℕ) → why A B n → TwoTablesRefused a b why n

-- Each public call refuses with a number exactly in that number's case; `table` is the judgement of a table in memory,
-- with which every call but `read` begins.
pub record CallsRefused : Type 0 where
  pub table : (m : Memory) (n : ℕ) → (decode_table m ≡ refused n) ↔ TableRefused m n
  pub read : (x : List ℕ) (s : Slices) (n : ℕ) → ((read_outcome x s).answer ≡ refused n) ↔ ReadRefused (space_of s) x n
  pub intersect : (m : Memory) (ps : List TapePair) (s : Slices) (work : List ℕ) (n : ℕ)
      → ((intersect_outcome m ps s work).made.answer ≡ refused n)
      ↔ OneTableRefused m (λ A. BuildCallRefused (enough (build_work (space_of s) (size A)) work) (space_of s) ps A) n
  pub forecast : (m : Memory) (ps : List Pair) (work : List ℕ) (n : ℕ)
      → ((forecast_outcome m ps work).answer ≡ refused n) ↔ OneTableRefused m (λ A. ForecastRefused (enough (forecast_work (size A)) work) ps A) n
  pub forecast_recorded : (m : Memory) (ps : List Pair) (result work : List ℕ) (n : ℕ)
      → ((forecast_recorded m ps result work).written.answer ≡ refused n)
      ↔ OneTableRefused m (λ A. ForecastRefused (and (enough (forecast_size * length ps) result) (enough (forecast_work (size A)) work)) ps A) n
  pub product : (a b : Memory) (s : Slices) (work : List ℕ) (n : ℕ)
      → ((product_outcome a b s work).made.answer ≡ refused n)
      ↔ TwoTablesRefused a b (ProductCallRefused ℕ_sum weight_fits (enough (product_work (space_of s)) work) (space_of s)) n
  pub join : (a b : Memory) (ps : List TapePair) (p s : Slices) (work : List ℕ) (n : ℕ)
      → ((join_outcome a b ps p s work).made.answer ≡ refused n)
      ↔ TwoTablesRefused a b (JoinRefused ℕ_sum weight_fits (lent_to (space_of p) (space_of s) work) ps) n
  pub union : (a b : Memory) (s : Slices) (n : ℕ) → ((union_outcome a b s).answer ≡ refused n) ↔ TwoTablesRefused a b (UnionRefused (space_of s)) n
  pub project : (m : Memory) (js : List ℕ) (s : Slices) (n : ℕ)
      → ((project_outcome m js s).answer ≡ refused n) ↔ OneTableRefused m (ProjectRefused (space_of s) js) n
  pub drop_tapes : (m : Memory) (mask : ℕ) (s : Slices) (n : ℕ)
      → ((drop_outcome m mask s).answer ≡ refused n) ↔ OneTableRefused m (DropRefused (space_of s) (in_mask mask)) n
  pub write : (m : Memory) (output : List ℕ) (n : ℕ) → ((write_outcome m output).answer ≡ refused n) ↔ OneTableRefused m (WriteRefused output) n
  pub lookup : (m : Memory) (text work : List ℕ) (n : ℕ) → ((lookup_outcome m text work).answer ≡ refused n) ↔ OneTableRefused m (LookupRefused text work) n
  pub path : (m : Memory) (text list work : List ℕ) (n : ℕ)
      → ((path_outcome m text list work).answer ≡ refused n) ↔ OneTableRefused m (PathRefused text true list work) n
  pub path_recorded : (m : Memory) (text result list work : List ℕ) (n : ℕ)
      → ((path_recorded m text result list work).found.answer ≡ refused n)
      ↔ OneTableRefused m (PathRefused text (enough told_size result) list work) n
