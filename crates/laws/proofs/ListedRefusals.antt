-- Every refusal that a call tells stands in document 01's list, but for 14 of the lookup that tells the path; a table
-- in memory is refused by 1 to 4 only, a text by these, 8 and 9 only.
use mathlib.Core.Path.{◌≡◌, refl}
use mathlib.Core.Logic.{◌⊎◌, inl, inr}
use mathlib.Core.Bool.{Bool, true, false}
use mathlib.Core.List.{List, [], ◌∷◌, ◌++◌}
use Prim.Native.Nat.{ℕ}
use native.Mathlib.Omega.{arith}
use lib.Dec.{eqb}
use Rattle.automata.specs.Answer.{◌>>=◌, ok, require}
use Rattle.automata.specs.Space.{Space}
use Rattle.automata.specs.OrderedSum.{OrderedSum}
use Rattle.automata.specs.Automaton.{Automaton, Tuple}
use Rattle.automata.specs.TapePair.{Pair, TapePair}
use Rattle.automata.specs.Table.{counts_fit}
use Rattle.automata.specs.Join.{Lent}
use Rattle.automata.specs.Sequence.{read_all}
use Rattle.automata.specs.TableText.{header_line, state_line, arc_line, is_empty}
use Rattle.automata.specs.Memory.{Memory, state_record, arc_record, decode_table}
use Rattle.automata.specs.Calls.Outcome.{space_of}
use Rattle.automata.specs.Calls.Lookup.{lines_from, lines}
use Rattle.automata.specs.Layout.{newline}
use Rattle.laws.specs.TableRefused.{ReadRefused, read_header_lem, read_states, read_arcs, read_state-line, read_arc-line, read_trailing}
use Rattle.laws.specs.Refused.{
  BuildRefused,
  build_states,
  build_arcs,
  build-delay,
  BuildCallRefused,
  build-tape,
  build-pairs,
  build-limit,
  build_work_lem,
  build_itself,
  ForecastRefused,
  forecast-tape,
  forecast-pairs,
  forecast-space,
  ProductRefused,
  product_states_lem,
  product_arcs,
  product-weight,
  ProductCallRefused,
  product-width,
  product_work_lem,
  product_itself,
  JoinRefused,
  join-width,
  join-tape,
  join-pairs,
  join-limit,
  join_work_lem,
  join-product,
  join-build,
  FitRefused,
  fit_states,
  fit_arcs,
  UnionRefused,
  union_tapes,
  union_fit,
  ProjectRefused,
  project-width,
  project-tape,
  project_fit,
  DropRefused,
  drop_tape,
  drop_fit,
  WriteRefused,
  write_space,
  LookupRefused,
  lookup-text,
  lookup_count,
  lookup-size,
  lookup-form,
  lookup_work_lem,
  PathRefused,
  path-text,
  path_count,
  path-size,
  path-form,
  path-space,
  path_list,
}
use Rattle.laws.specs.CallsRefused.{OneTableRefused, bad_table, good_table, TwoTablesRefused, bad_first, bad_second, good_tables}
use Rattle.laws.specs.ListedRefusals.{OfTable, Listed, ListedRefusals}
use Rattle.laws.proofs.TableRefused.{first-refused, many_refused}
use Rattle.laws.proofs.CallRefused.{calls_refused}
use Rattle.laws.proofs.Lemmas.FormatRefusals.{
  Fine,
  fine_check,
  fine_bind,
  fine_state_record,
  fine_arc_record,
  fine_header,
  fine_state_line,
  fine_arc_line,
  fine_first,
  fine_many,
  fine_all,
}

-- ---- tables

table-listed : (m : Memory) → Fine (decode_table m)
unfolding decode_table
table-listed m = fine_bind (require (counts_fit m.tapes m.states m.arcs) 3) _ (fine_check (counts_fit m.tapes m.states m.arcs) 3 tt (omega arith, omega arith))
    (λ t. fine_bind (read_all state_record m.states m.state_bytes) _ (fine_all state_record fine_state_record m.states m.state_bytes)
    (λ states. fine_bind (read_all (arc_record m.tapes m.states) m.arcs m.arc_bytes) _
    (fine_all (arc_record m.tapes m.states) (fine_arc_record m.tapes m.states) m.arcs m.arc_bytes)
    (λ arcs. fine_given (record { tapes = m.tapes; states = states; arcs = arcs }))))
  where
    fine_given : (A : Automaton ℕ) → Fine (ok A)
    fine_given A n e = let z : ◌≡◌ {A = ℕ} 0 1 = cc in absurd (omega arith)

-- a text
text-listed : (space : Space) (x : List ℕ) (n : ℕ) → ReadRefused space x n → OfTable n ⊎ ((n ≡ 8) ⊎ (n ≡ 9))
text-listed space x _ (read_header_lem n h) = inl (fine_first header_line fine_header x n ((first-refused header_line x n).1 h))
text-listed space x _ (read_states _ _ _ _) = inr (inl refl)
text-listed space x _ (read_arcs _ _ _ _ _) = inr (inr refl)
text-listed space x _ (read_state-line c y _ n h) = inl (fine_many state_line fine_state_line c.1.0 y n ((many_refused state_line c.1.0 y n).1 h))
text-listed space x _ (read_arc-line c y _ s _ n h) =
    let line = arc_line c.0 c.1.0 in
    inl (fine_many line (fine_arc_line c.0 c.1.0) c.1.1 s.1 n ((many_refused line c.1.1 s.1 n).1 h))
text-listed space x _ (read_trailing _ _ _ _ _ _ _ _) = inl (omega arith, omega arith)

-- ---- the cases of the calls

more : (n : ℕ) → OfTable n → Listed n
more n (a, b) = (a, omega arith)

build-listed : {W : Type 0} {A : Automaton W} {ps : List TapePair} {space : Space} (n : ℕ) → BuildRefused A ps space n → Listed n
build-listed _ (build_states _) = (omega arith, omega arith)
build-listed _ (build_arcs _ _) = (omega arith, omega arith)
build-listed _ (build-delay _ _ _ _ _ _ _) = (omega arith, omega arith)

build_call_listed : {W : Type 0} {enough : Bool} {space : Space} {ps : List TapePair} {A : Automaton W} (n : ℕ) → BuildCallRefused enough space ps A n → Listed n
build_call_listed _ (build-tape _) = (omega arith, omega arith)
build_call_listed _ (build-pairs _ _) = (omega arith, omega arith)
build_call_listed _ (build-limit _ _ _ _ _) = (omega arith, omega arith)
build_call_listed _ (build_work_lem _ _ _ _) = (omega arith, omega arith)
build_call_listed _ (build_itself _ _ _ _ n h) = build-listed n h

forecast-listed : {W : Type 0} {enough : Bool} {ps : List Pair} {A : Automaton W} (n : ℕ) → ForecastRefused enough ps A n → Listed n
forecast-listed _ (forecast-tape _) = (omega arith, omega arith)
forecast-listed _ (forecast-pairs _ _) = (omega arith, omega arith)
forecast-listed _ (forecast-space _ _ _) = (omega arith, omega arith)

product-listed : {S : OrderedSum} {fits : S.W → Bool} {space : Space} {A B : Automaton S.W} (n : ℕ) → ProductRefused S fits space A B n → Listed n
product-listed _ (product_states_lem _) = (omega arith, omega arith)
product-listed _ (product_arcs _ _) = (omega arith, omega arith)
product-listed _ (product-weight _ _ _ _ _ _ _) = (omega arith, omega arith)

product_call_listed : {S : OrderedSum} {fits : S.W → Bool} {enough : Bool} {space : Space} {A B : Automaton S.W} (n : ℕ)
    → ProductCallRefused S fits enough space A B n → Listed n
product_call_listed _ (product-width _) = (omega arith, omega arith)
product_call_listed _ (product_work_lem _ _) = (omega arith, omega arith)
product_call_listed _ (product_itself _ _ n h) = product-listed n h

join-listed : {S : OrderedSum} {fits : S.W → Bool} {lent : Lent} {ps : List TapePair} {A B : Automaton S.W} (n : ℕ) → JoinRefused S fits lent ps A B n → Listed n
join-listed _ (join-width _) = (omega arith, omega arith)
join-listed _ (join-tape _ _) = (omega arith, omega arith)
join-listed _ (join-pairs _ _ _) = (omega arith, omega arith)
join-listed _ (join-limit _ _ _ _ _ _) = (omega arith, omega arith)
join-listed _ (join_work_lem _ _ _ _ _) = (omega arith, omega arith)
join-listed _ (join-product _ n h) = product-listed n h
join-listed _ (join-build _ _ _ n h) = build-listed n h

fit_listed : {states arcs : ℕ} {space : Space} (n : ℕ) → FitRefused states arcs space n → Listed n
fit_listed _ (fit_states _) = (omega arith, omega arith)
fit_listed _ (fit_arcs _ _) = (omega arith, omega arith)

union-listed : {W : Type 0} {space : Space} {A B : Automaton W} (n : ℕ) → UnionRefused space A B n → Listed n
union-listed _ (union_tapes _) = (omega arith, omega arith)
union-listed _ (union_fit _ n h) = fit_listed n h

project-listed : {W : Type 0} {space : Space} {js : List ℕ} {A : Automaton W} (n : ℕ) → ProjectRefused space js A n → Listed n
project-listed _ (project-width _) = (omega arith, omega arith)
project-listed _ (project-tape _ _) = (omega arith, omega arith)
project-listed _ (project_fit _ _ n h) = fit_listed n h

drop_listed : {W : Type 0} {space : Space} {d : ℕ → Bool} {A : Automaton W} (n : ℕ) → DropRefused space d A n → Listed n
drop_listed _ (drop_tape _) = (omega arith, omega arith)
drop_listed _ (drop_fit _ n h) = fit_listed n h

write_listed : {output : List ℕ} {A : Automaton ℕ} (n : ℕ) → WriteRefused output A n → Listed n
write_listed _ (write_space _) = (omega arith, omega arith)

-- the text of a tuple is refused by 1 only
lines-listed : (s x : List ℕ) → Fine (lines_from s x)
lines-listed s [] = fine_check (is_empty s) 1 [] (omega arith, omega arith)
lines-listed s (b ∷ x) = go (eqb b newline) (lines-listed [] x) (lines-listed (s ++ (b ∷ [])) x)
  where
    go : (c : Bool) → Fine (lines_from [] x) → Fine (lines_from (s ++ (b ∷ [])) x)
        → Fine {A = Tuple} (elim c [ true ↦ lines_from [] x >>= λ t. ok (s ∷ t) | false ↦ lines_from (s ++ (b ∷ [])) x ])
    go true h g = fine_bind (lines_from [] x) (λ t. ok (s ∷ t)) h (λ t n e. let z : ◌≡◌ {A = ℕ} 0 1 = cc in absurd (omega arith))
    go false h g = g

-- the lookup of a tuple, and the one that tells the path
lookup-listed : {text work : List ℕ} {A : Automaton ℕ} (n : ℕ) → LookupRefused text work A n → Listed n
unfolding lines
lookup-listed {text} _ (lookup-text n e) = more n (lines-listed [] text n e)
lookup-listed _ (lookup_count _ _ _) = (omega arith, omega arith)
lookup-listed _ (lookup-size _ _ _ _) = (omega arith, omega arith)
lookup-listed _ (lookup-form _ _ _ _ _) = (omega arith, omega arith)
lookup-listed _ (lookup_work_lem _ _ _ _ _ _) = (omega arith, omega arith)

path-listed : {text : List ℕ} {room : Bool} {list work : List ℕ} {A : Automaton ℕ} (n : ℕ) → PathRefused text room list work A n → Listed n ⊎ (n ≡ 14)
unfolding lines
path-listed {text} _ (path-text n e) = inl (more n (lines-listed [] text n e))
path-listed _ (path_count _ _ _) = inl (omega arith, omega arith)
path-listed _ (path-size _ _ _ _) = inl (omega arith, omega arith)
path-listed _ (path-form _ _ _ _ _) = inl (omega arith, omega arith)
path-listed _ (path-space _ _ _ _ _ _) = inl (omega arith, omega arith)
path-listed _ (path_list _ _ _ _ _ _ _ _ _ _) = inr refl

-- of a table that was judged good it is a number of the list, or another that the operation has
one-listed-or : (m : Memory) (why : Automaton ℕ → ℕ → Type 0) (P : ℕ → Type 0) → ((n : ℕ) → Listed n → P n) → ((A : Automaton ℕ) (n : ℕ) → why A n → P n)
    → (n : ℕ) → OneTableRefused m why n → P n
one-listed-or m why P l h _ (bad_table n e) = l n (more n (table-listed m n ((calls_refused.table m n).1 e)))
one-listed-or m why P l h _ (good_table A _ n x) = h A n x

one-listed : (m : Memory) (why : Automaton ℕ → ℕ → Type 0) → ((A : Automaton ℕ) (n : ℕ) → why A n → Listed n) → (n : ℕ) → OneTableRefused m why n → Listed n
one-listed m why h = one-listed-or m why Listed (λ n l. l) h

two-listed : (a b : Memory) (why : Automaton ℕ → Automaton ℕ → ℕ → Type 0) → ((A B : Automaton ℕ) (n : ℕ) → why A B n → Listed n)
    → (n : ℕ) → TwoTablesRefused a b why n → Listed n
two-listed a b why h _ (bad_first n e) = more n (table-listed a n ((calls_refused.table a n).1 e))
two-listed a b why h _ (bad_second _ _ n e) = more n (table-listed b n ((calls_refused.table b n).1 e))
two-listed a b why h _ (good_tables A B _ _ n x) = h A B n x

-- the theorem
pub listed_refusals : ListedRefusals
listed_refusals = record {
  table = table-listed;
  read = λ x s n e. text-listed (space_of s) x n ((calls_refused.read x s n).0 e);
  write = λ m output n e. one-listed m _ (λ A. write_listed) n ((calls_refused.write m output n).0 e);
  intersect = λ m ps s work n e. one-listed m _ (λ A. build_call_listed) n ((calls_refused.intersect m ps s work n).0 e);
  forecast = λ m ps work n e. one-listed m _ (λ A. forecast-listed) n ((calls_refused.forecast m ps work n).0 e);
  forecast_recorded = λ m ps result work n e. one-listed m _ (λ A. forecast-listed) n ((calls_refused.forecast_recorded m ps result work n).0 e);
  product = λ a b s work n e. two-listed a b _ (λ A B. product_call_listed) n ((calls_refused.product a b s work n).0 e);
  join = λ a b ps p s work n e. two-listed a b _ (λ A B. join-listed) n ((calls_refused.join a b ps p s work n).0 e);
  union = λ a b s n e. two-listed a b _ (λ A B. union-listed) n ((calls_refused.union a b s n).0 e);
  project = λ m js s n e. one-listed m _ (λ A. project-listed) n ((calls_refused.project m js s n).0 e);
  drop_tapes = λ m mask s n e. one-listed m _ (λ A. drop_listed) n ((calls_refused.drop_tapes m mask s n).0 e);
  lookup = λ m text work n e. one-listed m _ (λ A. lookup-listed) n ((calls_refused.lookup m text work n).0 e);
  path = λ m text list work n e. one-listed-or m _ (λ n. Listed n ⊎ (n ≡ 14)) (λ n. inl) (λ A. path-listed) n ((calls_refused.path m text list work n).0 e);
  path_recorded = λ m text result list work n e.
      one-listed-or m _ (λ n. Listed n ⊎ (n ≡ 14)) (λ n. inl) (λ A. path-listed) n ((calls_refused.path_recorded m text result list work n).0 e);
}
