-- Refusals of writing, of the lookup of a tuple and of the lookup that tells the path.
use mathlib.Core.Path.{◌≡◌, refl, sym, ◌∙◌, ap, subst}
use mathlib.Core.Logic.{◌↔◌, ◌⊎◌, inl, inr, ⊎_elim}
use mathlib.Core.Bool.{Bool, true, false}
use mathlib.Core.Option.{Option, none, some}
use mathlib.Core.List.{List}
use Prim.Native.Nat.{ℕ, ◌≤◌, ◌<◌}
use native.Mathlib.Omega.{arith}
use lib.Dec.{leb}
use lib.ListN.{length}
use Rattle.automata.specs.Lists.{and}
use Rattle.automata.specs.Refusal
use Rattle.automata.specs.Answer.{◌>>=◌, Answer, ok, refused, judge}
use Rattle.automata.specs.OrderedSum.{ℕ_sum}
use Rattle.automata.specs.Automaton.{Automaton, Tuple, size}
use Rattle.automata.specs.Table.{WellFormed}
use Rattle.automata.specs.TableText.{write_table}
use Rattle.automata.specs.Lookup.{lookup}
use Rattle.automata.specs.LookupCall.{lookup_call}
use Rattle.automata.specs.Paths.{Trace, SuccessfulPath, trace, weight}
use Rattle.automata.specs.LeastPath.{FirstLeast, Account, least_path}
use Rattle.automata.specs.LeastPathCall.{listed, least_path_call}
use Rattle.automata.specs.Calls.Work.{lookup_work, path_work, enough}
use Rattle.automata.specs.Calls.Lookup.{lines}
use Rattle.automata.specs.Calls.LeastPath.{places_in}
use Rattle.laws.specs.LeastPath.{Tells}
use Rattle.laws.specs.Refused.{
  WriteRefused,
  write_space,
  LookupRefused,
  lookup-text,
  lookup_count,
  lookup-size,
  lookup-form,
  lookup_work_lem,
  PathRefused,
  path-text,
  path_count,
  path-size,
  path-form,
  path-space,
  path_list,
}
use Rattle.automata.proofs.TestFacts
use Rattle.laws.proofs.Lemmas.Tests.{Asks, asks_leb, asks_and, judge_asks, judge_stops, judge_passes, GoodTuple, TupleRefused, tuple_count, tuple-size, tuple-form, judged_tuple, tuple_passes, tuple_refuses, tuple-refused}
use borrow.Author.Tests.{leb-false, lt-leb}
use Rattle.automata.proofs.WellFormedFacts.{well_formed}
use Rattle.laws.proofs.LeastPath.{least_paths}
use Rattle.automata.proofs.AnswerFacts.{refused≢ok, judge_refuses, then_refuses}
use Rattle.laws.proofs.Lemmas.Judging.{judge-cases, bind-cases, then_on, over-or-within}

pub write_refused : (output : List ℕ) (A : Automaton ℕ) (n : ℕ)
    → (judge (enough (length (write_table A)) output) Refusal.space (ok (write_table A)) ≡ refused n) ↔ WriteRefused output A n
write_refused output A n = (why, answer n)
  where
    why : judge (enough (length (write_table A)) output) Refusal.space (ok (write_table A)) ≡ refused n → WriteRefused output A n
    why e = ⊎_elim (λ (x, z). subst (WriteRefused output A) z (write_space (leb-false (length (write_table A)) (length output) x)))
        (λ (_, e). absurd (refused≢ok (sym e))) (judge-cases (enough (length (write_table A)) output) _ _ n e)

    answer : (k : ℕ) → WriteRefused output A k → judge (enough (length (write_table A)) output) Refusal.space (ok (write_table A)) ≡ refused k
    answer _ (write_space h) = judge_refuses (enough (length (write_table A)) output) _ _ (lt-leb (length (write_table A)) (length output) h)

pub lookup-refused : (text work : List ℕ) (A : Automaton ℕ) (n : ℕ)
    → ((lines text >>= λ t. lookup_call (enough (lookup_work (size A) t) work) A t) ≡ refused n) ↔ LookupRefused text work A n
unfolding lookup_call
lookup-refused text work A n = (why, answer n)
  where
    found : Tuple → Answer (Option ℕ)
    found t = judge (enough (lookup_work (size A) t) work) Refusal.space (ok (lookup ℕ_sum A t))

    after : Tuple → Answer (Option ℕ)
    after t = judged_tuple A.tapes t (found t)

    of_tuple : (t : Tuple) → lines text ≡ ok t → (k : ℕ) → TupleRefused A.tapes t k → LookupRefused text work A k
    of_tuple t l _ (tuple_count x) = lookup_count t l x
    of_tuple t l _ (tuple-size c x) = lookup-size t l c x
    of_tuple t l _ (tuple-form c s x) = lookup-form t l c s x

    why : (lines text >>= after) ≡ refused n → LookupRefused text work A n
    why e = ⊎_elim (λ x. lookup-text n x)
        (λ (t, l, e). ⊎_elim (of_tuple t l n)
        (λ (g, e). ⊎_elim
        (λ (x, z). subst (LookupRefused text work A) z (lookup_work_lem t l g.width g.short g.symbols (leb-false (lookup_work (size A) t) (length work) x)))
        (λ (_, e). absurd (refused≢ok (sym e)))
        (judge-cases (enough (lookup_work (size A) t) work) _ _ n e))
        (tuple-refused A.tapes t (found t) n e))
        (bind-cases (lines text) after n e)

    refuses : (t : Tuple) → lines text ≡ ok t → (k : ℕ) → TupleRefused A.tapes t k → (lines text >>= after) ≡ refused k
    refuses t l k x = then_on (lines text) after t k l (tuple_refuses A.tapes t (found t) k x)

    answer : (k : ℕ) → LookupRefused text work A k → (lines text >>= after) ≡ refused k
    answer _ (lookup-text k x) = then_refuses (lines text) after k x
    answer _ (lookup_count t l x) = refuses t l _ (tuple_count x)
    answer _ (lookup-size t l c x) = refuses t l _ (tuple-size c x)
    answer _ (lookup-form t l c s x) = refuses t l _ (tuple-form c s x)
    answer _ (lookup_work_lem t l c s b x) = then_on (lines text) after t _ l
        (tuple_passes A.tapes t (found t) (record { width = c; short = s; symbols = b })
        ∙ judge_refuses (enough (lookup_work (size A) t) work) _ _ (lt-leb (lookup_work (size A) t) (length work) x))

-- a list is refused exactly where it has fewer places than the first of the least paths has arcs
list_refused : (A : Automaton ℕ) → WellFormed A → (t : Tuple) → length t ≡ A.tapes → (places n : ℕ)
    → (listed places (least_path ℕ_sum A t) ≡ refused n)
    ↔ ((Refusal.path ≡ n) × (π : SuccessfulPath A) × FirstLeast ℕ_sum A t π × (places < length π.run))
list_refused A wf t width places n = (λ e. short (least_path ℕ_sum A t) refl e, refuses)
  where
    told : (x : Account ℕ) → (least_path ℕ_sum A t ≡ some x) ↔ Tells ℕ_sum A t x
    told = (least_paths ℕ_sum A (well_formed A wf) t width).told

    short : (o : Option (Account ℕ)) → least_path ℕ_sum A t ≡ o → listed places o ≡ refused n
        → (Refusal.path ≡ n) × (π : SuccessfulPath A) × FirstLeast ℕ_sum A t π × (places < length π.run)
    short none e k = absurd (refused≢ok (sym k))
    short (some x) e k =
        let (π, p, _, f) = (told x).0 e in
        ⊎_elim (λ (h, z). (z, π, f, subst (λ (τ : Trace). places < length τ.run) (sym p) (leb-false (length x.path.run) places h)))
        (λ (_, k). absurd (refused≢ok (sym k)))
        (judge-cases (leb (length x.path.run) places) _ _ n k)

    refuses : (Refusal.path ≡ n) × (π : SuccessfulPath A) × FirstLeast ℕ_sum A t π × (places < length π.run) → listed places (least_path ℕ_sum A t) ≡ refused n
    refuses (z, π, f, h) =
        ap (listed places) ((told (record { weight = weight ℕ_sum π; path = trace π })).1 (π, refl, refl, f))
        ∙ judge_refuses (leb (length π.run) places) _ _ (lt-leb (length π.run) places h) ∙ ap refused z

-- of a table, the lookup that tells the path
pub path-refused : (text : List ℕ) (room : Bool) (list work : List ℕ) (A : Automaton ℕ) → WellFormed A → (n : ℕ)
    → ((lines text >>= λ t. least_path_call (and room (enough (path_work (size A) t) work)) (places_in list) A t) ≡ refused n) ↔ PathRefused text room list work A n
unfolding least_path_call
path-refused text room list work A wf n = (why, answer n)
  where
    space : Tuple → Bool
    space t = and room (enough (path_work (size A) t) work)

    found : Tuple → Answer (Option (Account ℕ))
    found t = judge (space t) Refusal.space (listed (places_in list) (least_path ℕ_sum A t))

    after : Tuple → Answer (Option (Account ℕ))
    after t = judged_tuple A.tapes t (found t)

    of_tuple : (t : Tuple) → lines text ≡ ok t → (k : ℕ) → TupleRefused A.tapes t k → PathRefused text room list work A k
    of_tuple t l _ (tuple_count x) = path_count t l x
    of_tuple t l _ (tuple-size c x) = path-size t l c x
    of_tuple t l _ (tuple-form c s x) = path-form t l c s x

    asks_space : (t : Tuple) → Asks (space t) ((room ≡ true) × (path_work (size A) t ≤ length work))
    asks_space t = asks_and room (enough (path_work (size A) t) work) (λ e. e, λ e. e) (asks_leb (path_work (size A) t) (length work))

    lacking : (t : Tuple) → ¬ ((room ≡ true) × (path_work (size A) t ≤ length work)) → (room ≡ false) ⊎ (length work < path_work (size A) t)
    lacking t short = ⊎_elim (λ r. ⊎_elim inr (λ w. absurd (short (r, w))) (over-or-within (path_work (size A) t) (length work))) inl (TestFacts.decide room)

    why : (lines text >>= after) ≡ refused n → PathRefused text room list work A n
    why e = ⊎_elim (λ x. path-text n x)
        (λ (t, l, e). ⊎_elim (of_tuple t l n)
        (λ (g, e). ⊎_elim
        (λ (x, z). subst (PathRefused text room list work A) z (path-space t l g.width g.short g.symbols (lacking t x)))
        (λ ((r, w), e).
        let (z, π, f, h) = (list_refused A wf t g.width (places_in list) n).0 e in
        subst (PathRefused text room list work A) z (path_list t l g.width g.short g.symbols r w π f h))
        (judge_asks (space t) (asks_space t) _ _ n e))
        (tuple-refused A.tapes t (found t) n e))
        (bind-cases (lines text) after n e)

    refuses : (t : Tuple) → lines text ≡ ok t → (k : ℕ) → TupleRefused A.tapes t k → (lines text >>= after) ≡ refused k
    refuses t l k x = then_on (lines text) after t k l (tuple_refuses A.tapes t (found t) k x)

    goes_on : (t : Tuple) → lines text ≡ ok t → GoodTuple A.tapes t → (k : ℕ) → found t ≡ refused k → (lines text >>= after) ≡ refused k
    goes_on t l g k e = then_on (lines text) after t k l (tuple_passes A.tapes t (found t) g ∙ e)

    answer : (k : ℕ) → PathRefused text room list work A k → (lines text >>= after) ≡ refused k
    answer _ (path-text k x) = then_refuses (lines text) after k x
    answer _ (path_count t l x) = refuses t l _ (tuple_count x)
    answer _ (path-size t l c x) = refuses t l _ (tuple-size c x)
    answer _ (path-form t l c s x) = refuses t l _ (tuple-form c s x)
    answer _ (path-space t l c s b (inl x)) = goes_on t l (record { width = c; short = s; symbols = b }) _
        (judge_stops (space t) (asks_space t) _ _ (λ (r, _). TestFacts.false_not_true x r))
    answer _ (path-space t l c s b (inr x)) = goes_on t l (record { width = c; short = s; symbols = b }) _
        (judge_stops (space t) (asks_space t) _ _ (λ (_, w). omega arith))
    answer _ (path_list t l c s b r w π f h) = goes_on t l (record { width = c; short = s; symbols = b }) _
        (judge_passes (space t) (asks_space t) _ _ _ (r, w) ((list_refused A wf t c (places_in list) _).1 (refl, π, f, h)))
