-- Each public call refuses with a number exactly in that number's case, on bytes.
use mathlib.Core.Path.{◌≡◌, sym, ap}
use mathlib.Core.Bool.{Bool, true}
use mathlib.Core.Logic.Iff
use mathlib.Core.Logic.{◌↔◌, ⊎_elim}
use mathlib.Core.Option.{Option, none, some}
use mathlib.Core.List.{List}
use Prim.Native.Nat.{ℕ, ◌*◌}
use native.Mathlib.Omega.{arith}
use lib.ListN.{length}
use Rattle.automata.specs.Answer.{◌>>=◌, Answer, ok, refused, judge}
use Rattle.automata.specs.OrderedSum.{ℕ_sum}
use Rattle.automata.specs.Automaton.{Automaton, size}
use Rattle.automata.specs.Table.{weight_fits, WellFormed}
use Rattle.automata.specs.TapePair.{Pair, TapePair}
use Rattle.automata.specs.Lists.{and}
use Rattle.automata.specs.Forecast.{Forecast}
use Rattle.automata.specs.Memory.{Memory, decode_table}
use Rattle.automata.specs.IntersectCall.{intersect_call}
use Rattle.automata.specs.ForecastCall.{forecast_call}
use Rattle.automata.specs.Product.{product}
use Rattle.automata.specs.Join.{join}
use Rattle.automata.specs.Union.{union}
use Rattle.automata.specs.Projection.{project, drop_tapes}
use Rattle.automata.specs.TableText.{write_table}
use Rattle.automata.specs.LookupCall.{lookup_call}
use Rattle.automata.specs.LeastPath.{Account}
use Rattle.automata.specs.LeastPathCall.{least_path_call}
use Rattle.automata.specs.Refusal
use Rattle.automata.specs.Calls.Outcome.{Slices, space_of, put, build, conclude, print}
use Rattle.automata.specs.Calls.Work.{build_work, product_work, lookup_work, path_work, forecast_work, enough}
use Rattle.automata.specs.Calls.Read.{read_answer, read_outcome}
use Rattle.automata.specs.Calls.Intersect.{intersect_answer, intersect_outcome}
use Rattle.automata.specs.Calls.Product.{product_answer, product_outcome}
use Rattle.automata.specs.Calls.Join.{lent_to, join_answer, join_outcome}
use Rattle.automata.specs.Calls.Union.{union_answer, union_outcome}
use Rattle.automata.specs.Calls.Project.{project_answer, project_outcome}
use Rattle.automata.specs.Calls.Drop.{in_mask, drop_answer, drop_outcome}
use Rattle.automata.specs.Calls.Write.{write_answer, write_outcome}
use Rattle.automata.specs.Calls.Lookup.{lines, lookup_answer, lookup_outcome}
use Rattle.automata.specs.Calls.LeastPath.{places_in, path_answer, list_path, path_outcome, told_size, path_recorded}
use Rattle.automata.specs.Calls.Forecast.{forecast_size, forecast_records, forecast_answer, forecast_outcome, forecast_recorded}
use Rattle.laws.specs.TableRefused.{ReadRefused}
use Rattle.laws.specs.Refused.{
  BuildCallRefused,
  ForecastRefused,
  ProductCallRefused,
  JoinRefused,
  UnionRefused,
  ProjectRefused,
  DropRefused,
  WriteRefused,
  LookupRefused,
  PathRefused,
}
use Rattle.laws.specs.CallsRefused.{
  OneTableRefused,
  bad_table,
  good_table,
  TwoTablesRefused,
  bad_first,
  bad_second,
  good_tables,
  CallsRefused,
}
use Rattle.automata.proofs.AnswerFacts.{refused≢ok, then_refuses}
use Rattle.automata.proofs.MemoryFacts.{decode_only}
use Rattle.laws.proofs.Lemmas.Judging.{bind-cases, then_on}
use Rattle.laws.proofs.TableRefused.{read_refused, table-refused}
use Rattle.laws.proofs.BuildRefused.{build_call_refused, forecast-refused}
use Rattle.laws.proofs.ProductRefused.{product_call_refused}
use Rattle.laws.proofs.JoinRefused.{join-refused}
use Rattle.laws.proofs.TapesRefused.{union-refused, project-refused, drop_refused}
use Rattle.laws.proofs.TextRefused.{write_refused, lookup-refused, path-refused}

-- an outcome tells the refusal of its answer
pub put_refused : (r : Answer (Automaton ℕ)) (s : Slices) (n : ℕ) → ((put r s).answer ≡ refused n) ↔ (r ≡ refused n)
unfolding put
put_refused (ok A) s n = (λ e. let z : ◌≡◌ {A = ℕ} 0 1 = cc in absurd (omega arith), λ e. let z : ◌≡◌ {A = ℕ} 0 1 = cc in absurd (omega arith))
put_refused (refused m) s n = (λ e. let z : m ≡ n = cc in ap refused z, λ e. let z : m ≡ n = cc in ap refused z)

-- the same of a text
print-refused : (r : Answer (List ℕ)) (output : List ℕ) (n : ℕ) → ((print r output).answer ≡ refused n) ↔ (r ≡ refused n)
unfolding print
print-refused (ok x) output n = (λ e. let z : ◌≡◌ {A = ℕ} 0 1 = cc in absurd (omega arith), λ e. let z : ◌≡◌ {A = ℕ} 0 1 = cc in absurd (omega arith))
print-refused (refused m) output n = (λ e. let z : m ≡ n = cc in ap refused z, λ e. let z : m ≡ n = cc in ap refused z)

-- a table, then the operation on it, which is well-formed
one_judged : {X : Type 0} (m : Memory) (k : Automaton ℕ → Answer X) (why : Automaton ℕ → ℕ → Type 0)
    → ((A : Automaton ℕ) → WellFormed A → (n : ℕ) → (k A ≡ refused n) ↔ why A n)
    → (n : ℕ) → ((decode_table m >>= k) ≡ refused n) ↔ OneTableRefused m why n
one_judged m k why h n = (
  λ e. ⊎_elim (λ x. bad_table n ((table-refused m n).0 x)) (λ (A, d, x). good_table A d n ((h A (decode_only m A d).0 n).0 x)) (bind-cases (decode_table m) k n e),
  answer n,
)
  where
    answer : (n : ℕ) → OneTableRefused m why n → (decode_table m >>= k) ≡ refused n
    answer _ (bad_table n x) = then_refuses (decode_table m) k n ((table-refused m n).1 x)
    answer _ (good_table A d n x) = then_on (decode_table m) k A n d ((h A (decode_only m A d).0 n).1 x)

-- the same of an operation that refuses alike whatever it is given
one_table : {X : Type 0} (m : Memory) (k : Automaton ℕ → Answer X) (why : Automaton ℕ → ℕ → Type 0) → ((A : Automaton ℕ) (n : ℕ) → (k A ≡ refused n) ↔ why A n)
    → (n : ℕ) → ((decode_table m >>= k) ≡ refused n) ↔ OneTableRefused m why n
one_table m k why h n = one_judged m k why (λ A wf. h A) n

-- two tables, then the operation
two_tables : (a b : Memory) (k : Automaton ℕ → Automaton ℕ → Answer (Automaton ℕ)) (why : Automaton ℕ → Automaton ℕ → ℕ → Type 0)
    → ((A B : Automaton ℕ) (n : ℕ) → (k A B ≡ refused n) ↔ why A B n)
    → (n : ℕ) → ((decode_table a >>= λ A. decode_table b >>= λ B. k A B) ≡ refused n) ↔ TwoTablesRefused a b why n
two_tables a b k why h n = (
  λ e. ⊎_elim (λ x. bad_first n ((table-refused a n).0 x))
      (λ (A, d, x). ⊎_elim (λ y. bad_second A d n ((table-refused b n).0 y)) (λ (B, f, y). good_tables A B d f n ((h A B n).0 y)) (bind-cases (decode_table b) (λ B. k A B) n x))
      (bind-cases (decode_table a) (λ A. decode_table b >>= λ B. k A B) n e),
  answer n,
)
  where
    answer : (n : ℕ) → TwoTablesRefused a b why n → (decode_table a >>= λ A. decode_table b >>= λ B. k A B) ≡ refused n
    answer _ (bad_first n x) = then_refuses (decode_table a) (λ A. decode_table b >>= λ B. k A B) n ((table-refused a n).1 x)
    answer _ (bad_second A d n x) = then_on (decode_table a) (λ A. decode_table b >>= λ B. k A B) A n d (then_refuses (decode_table b) (λ B. k A B) n ((table-refused b n).1 x))
    answer _ (good_tables A B d f n x) = then_on (decode_table a) (λ A. decode_table b >>= λ B. k A B) A n d
        (then_on (decode_table b) (λ B. k A B) B n f ((h A B n).1 x))

read_call_refused : (x : List ℕ) (s : Slices) (n : ℕ) → ((read_outcome x s).answer ≡ refused n) ↔ ReadRefused (space_of s) x n
unfolding read_outcome read_answer
read_call_refused x s n = Iff.trans (put_refused (read_answer x (space_of s)) s n) (read_refused (space_of s) x n)

intersect-refused : (m : Memory) (ps : List TapePair) (s : Slices) (work : List ℕ) (n : ℕ)
    → ((intersect_outcome m ps s work).made.answer ≡ refused n)
    ↔ OneTableRefused m (λ A. BuildCallRefused (enough (build_work (space_of s) (size A)) work) (space_of s) ps A) n
unfolding intersect_outcome intersect_answer build
intersect-refused m ps s work n = Iff.trans (put_refused (intersect_answer m ps (space_of s) work) s n)
    (one_table m (λ A. intersect_call (enough (build_work (space_of s) (size A)) work) (space_of s) ps A)
    (λ A. BuildCallRefused (enough (build_work (space_of s) (size A)) work) (space_of s) ps A)
    (λ A. build_call_refused (enough (build_work (space_of s) (size A)) work) (space_of s) ps A) n)

-- a table, then the forecasts, whatever is asked of the space
forecast_answer_refused : (m : Memory) (ps : List Pair) (room : Bool) (work : List ℕ) (n : ℕ)
    → (forecast_answer m ps room work ≡ refused n) ↔ OneTableRefused m (λ A. ForecastRefused (and room (enough (forecast_work (size A)) work)) ps A) n
unfolding forecast_answer
forecast_answer_refused m ps room work n =
    one_table m (λ A. forecast_call (and room (enough (forecast_work (size A)) work)) ps A) (λ A. ForecastRefused (and room (enough (forecast_work (size A)) work)) ps A)
    (λ A. forecast-refused (and room (enough (forecast_work (size A)) work)) ps A) n

forecast_call_refused : (m : Memory) (ps : List Pair) (work : List ℕ) (n : ℕ)
    → ((forecast_outcome m ps work).answer ≡ refused n) ↔ OneTableRefused m (λ A. ForecastRefused (enough (forecast_work (size A)) work) ps A) n
unfolding forecast_outcome
forecast_call_refused m ps work n = forecast_answer_refused m ps true work n

-- records are refused as what they are records of
recorded-refused : (m : Memory) (ps : List Pair) (result work : List ℕ) (n : ℕ)
    → ((forecast_recorded m ps result work).written.answer ≡ refused n)
    ↔ OneTableRefused m (λ A. ForecastRefused (and (enough (forecast_size * length ps) result) (enough (forecast_work (size A)) work)) ps A) n
unfolding forecast_recorded
recorded-refused m ps result work n =
    let a = forecast_answer m ps (enough (forecast_size * length ps) result) work in
    Iff.trans (print-refused (a >>= λ fs. ok (forecast_records fs)) result n)
    (Iff.trans (recorded a) (forecast_answer_refused m ps (enough (forecast_size * length ps) result) work n))
  where
    recorded : (a : Answer (List Forecast)) → ((a >>= λ fs. ok (forecast_records fs)) ≡ refused n) ↔ (a ≡ refused n)
    recorded (ok fs) = (λ e. absurd (refused≢ok (sym e)), λ e. absurd (refused≢ok (sym e)))
    recorded (refused k) = (λ e. let z : k ≡ n = cc in ap refused z, λ e. let z : k ≡ n = cc in ap refused z)

product-refused : (a b : Memory) (s : Slices) (work : List ℕ) (n : ℕ)
    → ((product_outcome a b s work).made.answer ≡ refused n)
    ↔ TwoTablesRefused a b (ProductCallRefused ℕ_sum weight_fits (enough (product_work (space_of s)) work) (space_of s)) n
unfolding product_outcome product_answer build
product-refused a b s work n = Iff.trans (put_refused (product_answer a b (space_of s) work) s n)
    (two_tables a b (product ℕ_sum weight_fits (enough (product_work (space_of s)) work) (space_of s))
    (ProductCallRefused ℕ_sum weight_fits (enough (product_work (space_of s)) work) (space_of s))
    (λ A B. product_call_refused ℕ_sum weight_fits (space_of s) A B (enough (product_work (space_of s)) work)) n)

join_call_refused : (a b : Memory) (ps : List TapePair) (p s : Slices) (work : List ℕ) (n : ℕ)
    → ((join_outcome a b ps p s work).made.answer ≡ refused n)
    ↔ TwoTablesRefused a b (JoinRefused ℕ_sum weight_fits (lent_to (space_of p) (space_of s) work) ps) n
unfolding join_outcome join_answer conclude
join_call_refused a b ps p s work n = Iff.trans (put_refused (join_answer a b ps (space_of p) (space_of s) work) s n)
    (two_tables a b (join ℕ_sum weight_fits (lent_to (space_of p) (space_of s) work) ps)
    (JoinRefused ℕ_sum weight_fits (lent_to (space_of p) (space_of s) work) ps)
    (join-refused ℕ_sum weight_fits (lent_to (space_of p) (space_of s) work) ps) n)

union_call_refused : (a b : Memory) (s : Slices) (n : ℕ) → ((union_outcome a b s).answer ≡ refused n) ↔ TwoTablesRefused a b (UnionRefused (space_of s)) n
unfolding union_outcome union_answer
union_call_refused a b s n = Iff.trans (put_refused (union_answer a b (space_of s)) s n)
    (two_tables a b (union (space_of s)) (UnionRefused (space_of s)) (union-refused (space_of s)) n)

project_call_refused : (m : Memory) (js : List ℕ) (s : Slices) (n : ℕ)
    → ((project_outcome m js s).answer ≡ refused n) ↔ OneTableRefused m (ProjectRefused (space_of s) js) n
unfolding project_outcome project_answer
project_call_refused m js s n = Iff.trans (put_refused (project_answer m js (space_of s)) s n)
    (one_table m (project (space_of s) js) (ProjectRefused (space_of s) js) (project-refused (space_of s) js) n)

drop_call_refused : (m : Memory) (mask : ℕ) (s : Slices) (n : ℕ)
    → ((drop_outcome m mask s).answer ≡ refused n) ↔ OneTableRefused m (DropRefused (space_of s) (in_mask mask)) n
unfolding drop_outcome drop_answer
drop_call_refused m mask s n = Iff.trans (put_refused (drop_answer m mask (space_of s)) s n)
    (one_table m (drop_tapes (space_of s) (in_mask mask)) (DropRefused (space_of s) (in_mask mask)) (drop_refused (space_of s) (in_mask mask)) n)

write_call_refused : (m : Memory) (output : List ℕ) (n : ℕ) → ((write_outcome m output).answer ≡ refused n) ↔ OneTableRefused m (WriteRefused output) n
unfolding write_outcome write_answer
write_call_refused m output n = Iff.trans (print-refused (write_answer m output) output n)
    (one_table m (λ A. judge (enough (length (write_table A)) output) Refusal.space (ok (write_table A))) (WriteRefused output) (write_refused output) n)

lookup_call_refused : (m : Memory) (text work : List ℕ) (n : ℕ)
    → ((lookup_outcome m text work).answer ≡ refused n) ↔ OneTableRefused m (LookupRefused text work) n
unfolding lookup_outcome lookup_answer
lookup_call_refused m text work n =
    one_table m (λ A. lines text >>= λ t. lookup_call (enough (lookup_work (size A) t) work) A t) (LookupRefused text work) (lookup-refused text work) n

-- the path that is told, or its refusal, whatever room there is for what is told
path_answer_refused : (m : Memory) (text : List ℕ) (room : Bool) (list work : List ℕ) (n : ℕ)
    → ((list_path (path_answer m text room list work) list work).answer ≡ refused n) ↔ OneTableRefused m (PathRefused text room list work) n
unfolding path_answer
path_answer_refused m text room list work n = Iff.trans (told (path_answer m text room list work))
    (one_judged m (λ A. lines text >>= λ t. least_path_call (and room (enough (path_work (size A) t) work)) (places_in list) A t)
    (PathRefused text room list work) (path-refused text room list work) n)
  where
    told : (a : Answer (Option (Account ℕ))) → ((list_path a list work).answer ≡ refused n) ↔ (a ≡ refused n)
    told (ok (some x)) = (λ e. absurd (refused≢ok (sym e)), λ e. absurd (refused≢ok (sym e)))
    told (ok none) = (λ e. absurd (refused≢ok (sym e)), λ e. absurd (refused≢ok (sym e)))
    told (refused k) = (λ e. let z : k ≡ n = cc in ap refused z, λ e. let z : k ≡ n = cc in ap refused z)

path_call_refused : (m : Memory) (text list work : List ℕ) (n : ℕ)
    → ((path_outcome m text list work).answer ≡ refused n) ↔ OneTableRefused m (PathRefused text true list work) n
unfolding path_outcome
path_call_refused m text list work n = path_answer_refused m text true list work n

path-recorded-refused : (m : Memory) (text result list work : List ℕ) (n : ℕ)
    → ((path_recorded m text result list work).found.answer ≡ refused n) ↔ OneTableRefused m (PathRefused text (enough told_size result) list work) n
unfolding path_recorded
path-recorded-refused m text result list work n = path_answer_refused m text (enough told_size result) list work n

-- the theorem
pub calls_refused : CallsRefused
calls_refused = record {
  table = table-refused;
  read = read_call_refused;
  intersect = intersect-refused;
  forecast = forecast_call_refused;
  forecast_recorded = recorded-refused;
  product = product-refused;
  join = join_call_refused;
  union = union_call_refused;
  project = project_call_refused;
  drop_tapes = drop_call_refused;
  write = write_call_refused;
  lookup = lookup_call_refused;
  path = path_call_refused;
  path_recorded = path-recorded-refused;
}
