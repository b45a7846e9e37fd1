-- The call by its steps: what each way out of it answers.
use mathlib.Core.Path.{◌≡◌, sym, ap, ◌∙◌}
use mathlib.Core.Bool.{Bool}
use mathlib.Core.Option.{Option}
use mathlib.Core.List.{List}
use Prim.Native.Nat.{ℕ, ◌*◌, ◌≤◌, ◌<◌}
use native.Mathlib.Omega.{arith}
use lib.ListN.{length}
use borrow.Author.Tests.{le-leb, lt-leb}
use Rattle.automata.specs.Answer.{Answer, ok, refused, judge}
use Rattle.automata.specs.OrderedSum.{ℕ_sum}
use Rattle.automata.specs.Automaton.{Automaton, Tuple, size}
use Rattle.automata.specs.Memory.{Memory, table_of, zeros}
use Rattle.automata.specs.Lookup.{lookup}
use Rattle.automata.specs.LookupCall.{lookup_call}
use Rattle.automata.specs.Calls.Outcome.{found_of}
use Rattle.automata.specs.Calls.Work.{lookup_work, enough}
use Rattle.automata.specs.Calls.Lookup.{lookup_answer, lookup_outcome}
use Rattle.table.specs.declared.answer.Refusal.{Refusal}
use Rattle.std.specs.Prelude.{Err}
use Rattle.table.specs.Answers.{refusal_number}
use Rattle.lookup_tuple.specs.declared.Strings.{Strings}
use Rattle.lookup_tuple.specs.Strings.{Stands}
use Rattle.lookup_tuple.specs.Positions.{positions}
use Rattle.lookup_cells.specs.Fillable.{Fillable}
use Rattle.lookup.specs.Judgement.{answer_by, Called, JudgedCall}
use Rattle.lookup.proofs.JudgeFacts.{judged_refused, called_answer, called_size, cells_are, answers_by, tests-first}

module _ (m : Memory) (text work : List ℕ) where
  -- what is answered of a table and a tuple that pass
  abbrev told : Automaton ℕ → Tuple → Answer (Option ℕ)
  told A t = judge (enough (lookup_work (size A) t) work) 13 (ok (lookup ℕ_sum A t))

  -- the answer of the call
  answer_is : lookup_answer m text work ≡ answer_by m text told
  unfolding lookup_answer lookup_call
  answer_is = answers_by m text (λ A t. lookup_call (enough (lookup_work (size A) t) work) A t) told (λ A t. tests-first A.tapes t (told A t))

  -- a table or a tuple that is refused
  pub call_refused : (why : Refusal) → JudgedCall m text (Err why) → refused (refusal_number why) ≡ lookup_answer m text work
  call_refused why j = sym (answer_is ∙ judged_refused m text why j told)

  module _ (s : Strings) (k : Called m text s) (n : ℕ) (e : n ≡ m.states * positions s.lengths) where
    -- the answer, once the tuple is judged
    call_passed : lookup_answer m text work ≡ judge (enough (lookup_work m.states k.tuple) work) 13 (ok (lookup ℕ_sum (table_of m) k.tuple))
    call_passed =
        answer_is ∙ called_answer m text s k told
        ∙ ap (λ (q : ℕ). judge (enough (lookup_work q k.tuple) work) 13 (ok (lookup ℕ_sum (table_of m) k.tuple))) (called_size m text s k)

    -- the bytes needed
    need_is : 8 * n ≡ lookup_work m.states k.tuple
    unfolding lookup_work
    need_is = ap (λ (q : ℕ). 8 * q) (cells_are m text s k n e)

    -- too little work space
    pub work_short : length work < 8 * n → refused 13 ≡ lookup_answer m text work
    work_short h =
        sym (call_passed ∙ ap (λ (b : Bool). judge b 13 (ok (lookup ℕ_sum (table_of m) k.tuple))) (lt-leb (lookup_work m.states k.tuple) (length work) (omega (arith, need_is, h))))

    -- enough: the cells can be filled
    pub work_enough : 8 * n ≤ length work → Fillable m text s (length work)
    work_enough h =
        record { sound = k.sound; tuple = k.tuple; stands = k.stands; tapes_are = k.tapes_are; fits = omega (arith, need_is, h) }

    -- and the weight is the one found
    pub work_done : 8 * n ≤ length work → (o : Option ℕ) (a : Answer (Option ℕ))
        → ((t : Tuple) → Stands text t s → length t ≡ m.tapes → o ≡ lookup ℕ_sum (table_of m) t) → a ≡ ok o → a ≡ lookup_answer m text work
    work_done h o a g f =
        f ∙ ap ok (g k.tuple k.stands k.tapes_are)
        ∙ sym (call_passed ∙ ap (λ (b : Bool). judge b 13 (ok (lookup ℕ_sum (table_of m) k.tuple))) (le-leb (lookup_work m.states k.tuple) (length work) (omega (arith, need_is, h))))

-- Work space is zero afterwards.
pub call_cleared : (m : Memory) (text work zeroed : List ℕ) (n : ℕ) (a : Answer (Option ℕ)) → a ≡ lookup_answer m text work → n ≡ length work → zeroed ≡ zeros n
    → found_of a zeroed ≡ lookup_outcome m text work
unfolding lookup_outcome
call_cleared m text work zeroed n a e l z = λ i. record { answer = e i; work = (z ∙ ap zeros l) i }
