-- The number with which a function for C answers determines the answer of its call.
use mathlib.Core.Path.{◌≡◌, refl, sym, ◌∙◌, ap, ap₂, subst}
use mathlib.Core.Logic.{◌⊎◌, inl, inr}
use mathlib.Core.Bool.{Bool}
use mathlib.Core.Option.{Option, none, some}
use mathlib.Core.List.{List, [], ◌∷◌, ◌++◌, map, append_assoc}
use Prim.Native.Nat.{ℕ, zero, suc, ◌+◌, ◌*◌, ◌≤◌, ◌<◌, ◌/◌, ◌%◌}
use native.Mathlib.Nat.{add-zero, zero-add}
use native.Mathlib.Omega.{arith}
use lib.Dec.{eqb}
use lib.ListN.{length, get_or, drop}
use lib.Seq.{get_or-drop, drop-drop}
use borrow.Author.Tests.{eq-eqb, ne_eqb}
use Rattle.automata.specs.Lists.{if, All}
use Rattle.automata.specs.Answer.{◌>>=◌, Answer, ok, refused}
use Rattle.automata.specs.OrderedSum.{ℕ_sum}
use Rattle.automata.specs.Automaton.{Automaton}
use Rattle.automata.specs.Table.{Counts}
use Rattle.automata.specs.TapePair.{Pair}
use Rattle.automata.specs.Paths.{Trace}
use Rattle.automata.specs.LeastPath.{Account}
use Rattle.automata.specs.Records.{write_all}
use Rattle.automata.specs.LittleEndian.{little}
use Rattle.automata.specs.Memory.{Memory, table_of}
use Rattle.automata.specs.Forecast.{number, over, Forecast, mixed, needs}
use Rattle.automata.specs.ForecastCall.{forecast_of}
use Rattle.automata.specs.Calls.Outcome.{Slices, TableCounts, cleared, space_of, put, build, conclude, print}
use Rattle.automata.specs.Calls.Work.{enough}
use Rattle.automata.specs.Calls.Read.{read_answer, read_outcome}
use Rattle.automata.specs.Calls.Write.{write_outcome}
use Rattle.automata.specs.Calls.Intersect.{intersect_answer, intersect_outcome}
use Rattle.automata.specs.Calls.Product.{product_answer, product_outcome}
use Rattle.automata.specs.Calls.Join.{join_answer, join_outcome}
use Rattle.automata.specs.Calls.Union.{union_answer, union_outcome}
use Rattle.automata.specs.Calls.Project.{project_answer, project_outcome}
use Rattle.automata.specs.Calls.Drop.{drop_answer, drop_outcome}
use Rattle.automata.specs.Calls.Lookup.{lookup_outcome}
use Rattle.automata.specs.Calls.Forecast.{forecast_answer, forecast_size, forecast_record, forecast_records, forecast_recorded}
use Rattle.automata.specs.Calls.LeastPath.{entry_size, entries, path_answer, Told, told_of, told_answer, path_in, told_size, told_bytes, record_told, PathRecorded, path_recorded_of, path_recorded}
use Rattle.automata.proofs.RecordFacts.{All_map}
use Rattle.automata.proofs.WellFormedFacts.{well_formed}
use Rattle.automata.proofs.SoundFacts.{sound_well_formed}
use Rattle.automata.proofs.ForecastRanges.{Small, forecast_small}
use Rattle.automata.proofs.ForecastCalls.{ToldOf, told_of_lem, length_records}
use Rattle.laws.specs.Storable.{Storable}
use Rattle.laws.specs.ListedRefusals.{OfTable, Listed}
use Rattle.laws.proofs.LeastPath.{least_paths}
use Rattle.laws.proofs.CallPath.{walk_numbers, path_calls_lem}
use Rattle.laws.proofs.ListedRefusals.{listed_refusals}
use Rattle.laws.proofs.Lemmas.CallTables.{read_fits, intersect_fits, product_fits, join_fits, union_fits, project_fits, drop_fits}
use Rattle.laws.proofs.Lemmas.PathAnswers.{PathParts, path_parts}
use Rattle.c_answers.specs.Words.{table_word, bytes_word, weight_word, told_recorded, told_path}
use Rattle.c_answers.specs.WordParts.{low_byte, above, counts_in, two_bytes, four_bytes, eight_bytes, values_in, table_told, bytes_told, or_none, weight_told, forecast_in, forecasts_told, account_in, path_told, WordsTell}

-- a test that passes, and one that fails
passes : {A : Type 0} (m n : ℕ) (x y : A) → m ≡ n → if (eqb m n) x y ≡ x
passes m n x y e = ap (λ b. if b x y) (eq-eqb m n e)

fails : {A : Type 0} (m n : ℕ) (x y : A) → (m ≡ n → ⊥) → if (eqb m n) x y ≡ y
fails m n x y f = ap (λ b. if b x y) (ne_eqb m n f)

-- the refusals of an answer stand in the list
abbrev AllListed : {A : Type 0} → Answer A → Type 0
AllListed a = (n : ℕ) → a ≡ refused n → Listed n

-- ---- the parts

module _ (tapes states arcs : ℕ) (few : tapes ≤ 8) (some-states : states ≤ 1024) (some-arcs : arcs ≤ 8192) where
  abbrev word : ℕ
  word = 256 * tapes + 65536 * states + 4294967296 * arcs

  low : word % 256 ≡ 0
  low = omega arith

  first : word / 256 % 256 ≡ tapes
  first = omega arith

  second : word / 65536 % 65536 ≡ states
  second = omega arith

  third : word / 4294967296 ≡ arcs
  third = omega arith

-- the counts of a table
counts_back : (c : TableCounts) → Counts c.tapes c.states c.arcs → table_told (table_word (ok c)) ≡ ok c
unfolding table_told
counts_back c h =
    let t = h.tapes_fit in
    let s = h.states_fit in
    let a = h.arcs_fit in
    passes (low_byte (table_word (ok c))) 0 (ok (counts_in (table_word (ok c)))) (refused (low_byte (table_word (ok c)))) (low c.tapes c.states c.arcs t s a)
    ∙ (λ i. ok (record {
      tapes = first c.tapes c.states c.arcs t s a i;
      states = second c.tapes c.states c.arcs t s a i;
      arcs = third c.tapes c.states c.arcs t s a i;
    }))

-- a refusal of a call that makes a table
refusal_back : (n : ℕ) → Listed n → table_told n ≡ refused n
unfolding table_told
refusal_back n (l, h) =
    let small : n % 256 ≡ n = omega arith in
    fails (low_byte n) 0 (ok (counts_in n)) (refused (low_byte n)) (λ e. absurd (omega arith)) ∙ ap refused small

bytes_back : (a : Answer ℕ) → AllListed a → bytes_told (bytes_word a) ≡ a
unfolding bytes_told
bytes_back (ok n) l =
    let zero-low : 256 * n % 256 ≡ 0 = omega arith in
    let rest : 256 * n / 256 ≡ n = omega arith in
    passes (low_byte (256 * n)) 0 (ok (above (256 * n))) (refused (low_byte (256 * n))) zero-low ∙ ap ok rest
bytes_back (refused n) l =
    let (a, b) = l n refl in
    let small : n % 256 ≡ n = omega arith in
    fails (low_byte n) 0 (ok (above n)) (refused (low_byte n)) (λ e. absurd (omega arith)) ∙ ap refused small

-- of a call that may tell none: what it tells, none, and a refusal
some_back : {A : Type 0} (w : ℕ) (x : A) → low_byte w ≡ 0 → or_none w x ≡ ok (some x)
unfolding or_none
some_back w x e = passes (low_byte w) 0 _ _ e

none_back : {A : Type 0} (x : A) → or_none 255 x ≡ ok none
unfolding or_none
none_back x = refl

refused_back : {A : Type 0} (n : ℕ) (x : A) → 1 ≤ n → n ≤ 14 → or_none n x ≡ refused n
unfolding or_none
refused_back n x a b =
    let small : n % 256 ≡ n = omega arith in
    fails (low_byte n) 0 (ok (some x)) (if (eqb (low_byte n) 255) (ok none) (refused (low_byte n))) (λ e. absurd (omega arith))
    ∙ fails (low_byte n) 255 (ok none) (refused (low_byte n)) (λ e. absurd (omega arith)) ∙ ap refused small

weight_back : (a : Answer (Option ℕ)) → AllListed a → weight_told (weight_word a) ≡ a
weight_back (ok (some w)) l =
    let zero-low : 256 * w % 256 ≡ 0 = omega arith in
    let rest : 256 * w / 256 ≡ w = omega arith in
    some_back (256 * w) (above (256 * w)) zero-low ∙ ap (λ w. ok (some w)) rest
weight_back (ok none) l = none_back (above 255)
weight_back (refused n) l = let (a, b) = l n refl in refused_back n (above n) a (omega arith)

-- ---- values in lent bytes

-- two bytes behind others
two_shift : (at k : ℕ) (r : List ℕ) → two_bytes (at + k) r ≡ two_bytes k (drop at r)
two_shift at k r =
    let e : at + k + 1 ≡ at + (k + 1) = omega arith in
    ap₂ (λ (x y : ℕ). x + 256 * y) (sym (get_or-drop at r k 0)) (ap (λ (i : ℕ). get_or r i 0) e ∙ sym (get_or-drop at r (k + 1) 0))

two-behind : (at : ℕ) (r : List ℕ) → two_bytes at r ≡ two_bytes 0 (drop at r)
two-behind at r = ap (λ (i : ℕ). two_bytes i r) (sym (add-zero at)) ∙ two_shift at 0 r

-- a number of two bytes
two_back : (n : ℕ) → n < 65536 → n % 256 + 256 * (n / 256 % 256) ≡ n
two_back n h = omega arith

-- values of one size
module _ {A : Type 0} (value : ℕ → List ℕ → A) (size : ℕ) (shift : (at : ℕ) (r : List ℕ) → value at r ≡ value 0 (drop at r)) where
  values_shift : (n at : ℕ) (r : List ℕ) → values_in value size at n r ≡ values_in value size 0 n (drop at r)
  unfolding values_in
  values_shift zero at r = refl
  values_shift (suc n) at r =
      let e : values_in value size (at + size) n r ≡ values_in value size (0 + size) n (drop at r)
      = values_shift n (at + size) r ∙ ap (values_in value size 0 n) (sym (drop-drop size at r)) ∙ sym (values_shift n size (drop at r))
      ∙ ap (λ (k : ℕ). values_in value size k n (drop at r)) (sym (zero-add size)) in
      ap₂ (λ (x : A) (xs : List A). x ∷ xs) (shift at r) e

  -- each so written that it can be read again
  module _ (write : A → List ℕ) (Good : A → Type 0) (behind : (x : A) (r : List ℕ) → drop size (write x ++ r) ≡ r)
      (back : (x : A) (r : List ℕ) → Good x → value 0 (write x ++ r) ≡ x) where
    values_back : (xs : List A) (rest : List ℕ) → All Good xs → values_in value size 0 (length xs) (write_all write xs ++ rest) ≡ xs
    unfolding values_in
    values_back [] rest h = refl
    values_back (x ∷ xs) rest h =
        let r = write_all write xs ++ rest in
        ap (values_in value size 0 (suc (length xs))) (append_assoc (write x) (write_all write xs) rest)
        ∙ ap₂ (λ (y : A) (ys : List A). y ∷ ys) (back x r h.0)
        (ap (λ (k : ℕ). values_in value size k (length xs) (write x ++ r)) (zero-add size) ∙ values_shift (length xs) size (write x ++ r)
        ∙ ap (values_in value size 0 (length xs)) (behind x r) ∙ values_back xs rest h.1)

-- ---- the records of forecasts

-- a record behind others
record_shift : (at : ℕ) (r : List ℕ) → forecast_in at r ≡ forecast_in 0 (drop at r)
unfolding forecast_in
record_shift at r = rw (two-behind at r, two_shift at 2 r, two_shift at 4 r)

-- what stands behind a record
record_behind : (f : Forecast) (r : List ℕ) → drop forecast_size (forecast_record f ++ r) ≡ r
record_behind (needs d (number n)) r = refl
record_behind (needs d over) r = refl
record_behind mixed r = refl

-- the forecast of a record
record_back : (f : Forecast) (rest : List ℕ) → Small f → forecast_in 0 (forecast_record f ++ rest) ≡ f
unfolding forecast_in
record_back (needs d (number n)) rest (a, b) = ap₂ (λ (x y : ℕ). needs x (number y)) (two_back d a) (two_back n b)
record_back (needs d over) rest a = ap (λ (x : ℕ). needs x over) (two_back d a)
record_back mixed rest s = refl

-- the forecasts of several
records_back : (fs : List Forecast) (rest : List ℕ) → All Small fs
    → values_in forecast_in forecast_size 0 (length fs) (forecast_records fs ++ rest) ≡ fs
records_back = values_back forecast_in forecast_size record_shift forecast_record Small record_behind record_back

-- forecasts that were told are small
told_small : (m : Memory) (ps : List Pair) (room : Bool) (fs : List Forecast) → ToldOf m ps room fs → All Small fs
unfolding forecast_of
told_small m ps room fs t = rw t.are (go ps)
  where
    go : (qs : List Pair) → All Small (map (forecast_of (table_of m)) qs)
    go [] = tt
    go (q ∷ qs) = (forecast_small (table_of m) (well_formed (table_of m) (sound_well_formed m t.judged)) _, go qs)

forecasts_back : (m : Memory) (ps : List Pair) (result work : List ℕ)
    → forecasts_told (told_recorded (forecast_recorded m ps result work)) ≡ forecast_answer m ps (enough (forecast_size * length ps) result) work
unfolding forecasts_told forecast_recorded print
forecasts_back m ps result work = go (forecast_answer m ps room work) refl
  where
    room : Bool
    room = enough (forecast_size * length ps) result

    recorded-refused : (n : ℕ) → forecast_answer m ps room work ≡ refused n → (print (forecast_answer m ps room work >>= λ fs. ok (forecast_records fs)) result).answer ≡ refused n
    recorded-refused n e = ap (λ (a : Answer (List Forecast)). (print (a >>= λ fs. ok (forecast_records fs)) result).answer) e

    go : (a : Answer (List Forecast)) → forecast_answer m ps room work ≡ a
        → forecasts_told (told_recorded (record { written = print (a >>= λ fs. ok (forecast_records fs)) result; work = cleared work })) ≡ a
    go (ok fs) e =
        let k = length (forecast_records fs) in
        let low : 256 * k % 256 ≡ 0 = omega arith in
        let count : 256 * k / 256 / forecast_size ≡ length fs = omega (arith, length_records fs) in
        passes (low_byte (256 * k)) 0 _ _ low
        ∙ ap (λ (n : ℕ). ok (values_in forecast_in forecast_size 0 n (forecast_records fs ++ drop k result))) count
        ∙ ap ok (records_back fs (drop k result) (told_small m ps room fs (told_of_lem m ps room work fs e)))
    go (refused n) e =
        let (a, b) = listed_refusals.forecast_recorded m ps result work n (recorded-refused n e) in
        let small : n % 256 ≡ n = omega arith in
        fails (low_byte n) 0 _ _ (λ e. absurd (omega arith)) ∙ ap refused small

-- ---- a path

-- the arc numbers of a list
arcs_back : (run rest : List ℕ) → All (λ e. e < 65536) run → values_in two_bytes entry_size 0 (length run) (entries run ++ rest) ≡ run
arcs_back = values_back two_bytes entry_size two-behind (little entry_size).write (λ e. e < 65536) (λ e r. refl) (λ e r h. two_back e h)

-- the numbers of a result
module _ (x : Told) (rest : List ℕ) where
  weight_in : x.weight < 18446744073709551616 → eight_bytes 0 (told_bytes x ++ rest) ≡ x.weight
  weight_in h = omega arith

  start_in : x.start < 4294967296 → four_bytes 16 (told_bytes x ++ rest) ≡ x.start
  start_in h = omega arith

  arcs_in : x.arcs < 4294967296 → four_bytes 20 (told_bytes x ++ rest) ≡ x.arcs
  arcs_in h = omega arith

-- arc numbers that are told have two bytes
run_small : (m : Memory) (text : List ℕ) (room : Bool) (list work : List ℕ) (x : Account ℕ) → PathParts m text room list work (some x)
    → All (λ e. e < 65536) x.path.run
run_small m text room list work x p =
    let A = table_of m in
    let wf = sound_well_formed m p.judged in
    let (π, q, _, _) = ((least_paths ℕ_sum A (well_formed A wf) p.tuple p.good.width).told x).0 p.is in
    All_map (λ e. e < length A.arcs) (λ e. e < 65536) (λ e l. omega (arith, l, wf.counts.arcs_fit)) x.path.run
    (subst (λ (τ : Trace). All (λ e. e < length A.arcs) τ.run) q (walk_numbers A π.successful.walk))

path_back : (m : Memory) (text result list work : List ℕ)
    → path_told (told_path (path_recorded m text result list work)) ≡ path_answer m text (enough told_size result) list work
unfolding path_recorded
path_back m text result list work = go (path_answer m text room list work) refl
  where
    room : Bool
    room = enough told_size result

    -- the outcome with this answer
    outcome : Answer (Option (Account ℕ)) → PathRecorded
    outcome a = path_recorded_of (told_answer a) (record_told (told_answer a) result) (path_in a list) (cleared work)

    -- the account that stands in what is left of one
    left : Account ℕ → Account ℕ
    left x = account_in (outcome (ok (some x))).result (outcome (ok (some x))).found.list

    account_back : (x : Account ℕ) → path_answer m text room list work ≡ ok (some x) → left x ≡ x
    account_back x e =
        let t = told_of x in
        let told = (path_calls_lem.recorded m text result list work (some t) (ap told_answer e)).0.told t refl in
        let run = x.path.run in
        let behind = drop (length (entries run)) list in
        let n = arcs_in t (drop told_size result) (omega (arith, told.few_arcs)) in
        λ i. record {
          weight = weight_in t (drop told_size result) told.small i;
          path = record {
            start = start_in t (drop told_size result) (omega (arith, told.state)) i;
            run = (ap (λ (k : ℕ). values_in two_bytes entry_size 0 k (entries run ++ behind)) n
                ∙ arcs_back run behind (run_small m text room list work x (path_parts m text room list work (some x) e))) i;
          };
        }

    listed : (n : ℕ) → Listed n ⊎ (n ≡ 14) → (1 ≤ n) × (n ≤ 14)
    listed n (inl (a, b)) = (a, omega arith)
    listed n (inr e) = (omega arith, omega arith)

    go : (a : Answer (Option (Account ℕ))) → path_answer m text room list work ≡ a → path_told (told_path (outcome a)) ≡ a
    go (ok (some x)) e = some_back 0 (left x) refl ∙ ap {B = Answer (Option (Account ℕ))} (λ (y : Account ℕ). ok (some y)) (account_back x e)
    go (ok none) e = none_back (account_in result list)
    go (refused n) e = let (a, b) = listed n (listed_refusals.path_recorded m text result list work n (ap told_answer e)) in refused_back n (account_in result list) a b

-- ---- the calls

-- an answer put into slices
put_back : (r : Answer (Automaton ℕ)) (s : Slices) → ((A : Automaton ℕ) → r ≡ ok A → Storable (space_of s) A) → AllListed (put r s).answer
    → table_told (table_word (put r s).answer) ≡ (put r s).answer
unfolding put
put_back (ok A) s h l = counts_back _ (h A refl).well_formed.counts
put_back (refused n) s h l = refusal_back n (l n refl)

-- the refusals of a text
text-listed : (n : ℕ) → OfTable n ⊎ ((n ≡ 8) ⊎ (n ≡ 9)) → Listed n
text-listed n (inl (a, b)) = (a, omega arith)
text-listed n (inr (inl e)) = (omega arith, omega arith)
text-listed n (inr (inr e)) = (omega arith, omega arith)

-- the theorem
pub words_tell : WordsTell
unfolding read_outcome intersect_outcome product_outcome join_outcome union_outcome project_outcome drop_outcome build conclude
words_tell = record {
  read = λ x s. put_back (read_answer x (space_of s)) s (read_fits x (space_of s)) (λ n e. text-listed n (listed_refusals.read x s n e));
  write = λ m output. bytes_back (write_outcome m output).answer (listed_refusals.write m output);
  build = λ m ps s work. put_back (intersect_answer m ps (space_of s) work) s (intersect_fits m ps (space_of s) work) (listed_refusals.intersect m ps s work);
  product = λ a b s work. put_back (product_answer a b (space_of s) work) s (product_fits a b (space_of s) work) (listed_refusals.product a b s work);
  join = λ a b ps p s work. put_back (join_answer a b ps (space_of p) (space_of s) work) s (join_fits a b ps (space_of p) (space_of s) work)
      (listed_refusals.join a b ps p s work);
  union = λ a b s. put_back (union_answer a b (space_of s)) s (union_fits a b (space_of s)) (listed_refusals.union a b s);
  project = λ m js s. put_back (project_answer m js (space_of s)) s (project_fits m js (space_of s)) (listed_refusals.project m js s);
  drop = λ m mask s. put_back (drop_answer m mask (space_of s)) s (drop_fits m mask (space_of s)) (listed_refusals.drop_tapes m mask s);
  forecast = forecasts_back;
  path = path_back;
  lookup = λ m text work. weight_back (lookup_outcome m text work).answer (listed_refusals.lookup m text work);
}
