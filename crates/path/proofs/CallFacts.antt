-- The call by its steps: what each way out of it answers and leaves in the list.
use mathlib.Core.Path.{◌≡◌, sym, ap, ◌∙◌}
use mathlib.Core.Bool.{Bool, true, false}
use mathlib.Core.Option.{Option}
use mathlib.Core.List.{List}
use Prim.Native.Nat.{ℕ, ◌*◌}
use native.Mathlib.Omega.{arith}
use lib.Dec.{leb}
use lib.ListN.{length}
use borrow.Author.Tests.{leb-true}
use Rattle.automata.specs.Lists.{and}
use Rattle.automata.specs.Answer.{Answer, refused, judge}
use Rattle.automata.specs.OrderedSum.{ℕ_sum}
use Rattle.automata.specs.Automaton.{Automaton, Tuple, size}
use Rattle.automata.specs.Memory.{Memory, table_of}
use Rattle.automata.specs.LeastPath.{Account, least_path}
use Rattle.automata.specs.LeastPathCall.{listed, least_path_call}
use Rattle.automata.specs.Calls.Work.{combinations, path_work, enough}
use Rattle.automata.specs.Calls.LeastPath.{places_in, path_answer, Told, told_answer, path_in, PathFound, list_path, path_outcome}
use Rattle.automata.proofs.TestFacts.{and_true}
use Rattle.std.specs.Prelude.{Err}
use Rattle.table.specs.Answers.{refusal_number}
use Rattle.table.specs.declared.answer.Refusal.{Refusal}
use Rattle.lookup_tuple.specs.declared.Strings.{Strings}
use Rattle.lookup_tuple.specs.Strings.{Stands}
use Rattle.lookup_tuple.specs.Positions.{positions}
use Rattle.lookup.specs.Judgement.{answer_by, Called, JudgedCall}
use Rattle.lookup.proofs.JudgeFacts.{judged_refused, called_answer, called_size, cells_are, answers_by, tests-first}
use Rattle.path_search.specs.Traced.{Traceable}

module _ (m : Memory) (text : List ℕ) (room : Bool) (list work : List ℕ) where
  -- the answer of the call
  abbrev answer : Answer (Option (Account ℕ))
  answer = path_answer m text room list work

  -- what is answered of a table and a tuple that pass
  abbrev found : Automaton ℕ → Tuple → Answer (Option (Account ℕ))
  found A t = judge (and room (enough (path_work (size A) t) work)) 13 (listed (places_in list) (least_path ℕ_sum A t))

  answer_is : answer ≡ answer_by m text found
  unfolding path_answer least_path_call
  answer_is = answers_by m text (λ A t. least_path_call (and room (enough (path_work (size A) t) work)) (places_in list) A t) found
      (λ A t. tests-first A.tapes t (found A t))

  -- an answer, told, with the list as it leaves it
  abbrev Tells : Answer (Option Told) → List ℕ → Type 0
  Tells a left = (a ≡ told_answer answer) × (left ≡ path_in answer list)

  -- a refusal tells its number and leaves the list
  refuses : (n : ℕ) → answer ≡ refused n → Tells (refused n) list
  refuses n e = (sym (ap told_answer e), sym (ap (λ (a : Answer (Option (Account ℕ))). path_in a list) e))

  -- a table or a tuple that is refused
  pub call_refused : (why : Refusal) → JudgedCall m text (Err why) → Tells (refused (refusal_number why)) list
  call_refused why j = refuses (refusal_number why) (answer_is ∙ judged_refused m text why j found)

  module _ (s : Strings) (k : Called m text s) (n : ℕ) (e : n ≡ m.states * positions s.lengths) (b : Bool) (h : b ≡ and room (leb (24 * n) (length work))) where
    -- the answer, once the tuple is judged
    call_passed : answer ≡ judge b 13 (listed (places_in list) (least_path ℕ_sum (table_of m) k.tuple))
    unfolding path_work
    call_passed =
        answer_is ∙ called_answer m text s k found
        ∙ ap (λ (q : ℕ). judge (and room (leb (24 * (q * combinations k.tuple)) (length work))) 13 (listed (places_in list) (least_path ℕ_sum (table_of m) k.tuple))) (called_size m text s k)
        ∙ ap (λ (q : ℕ). judge (and room (leb (24 * q) (length work))) 13 (listed (places_in list) (least_path ℕ_sum (table_of m) k.tuple))) (sym (cells_are m text s k n e))
        ∙ ap (λ (x : Bool). judge x 13 (listed (places_in list) (least_path ℕ_sum (table_of m) k.tuple))) (sym h)

    -- too little space
    pub space-short : b ≡ false → Tells (refused 13) list
    space-short f = refuses 13 (call_passed ∙ ap (λ (x : Bool). judge x 13 (listed (places_in list) (least_path ℕ_sum (table_of m) k.tuple))) f)

    -- enough: the path can be searched
    pub space-enough : b ≡ true → Traceable m text s (length work)
    unfolding path_work
    space-enough f = record {
      sound = k.sound;
      tuple = k.tuple;
      stands = k.stands;
      tapes_are = k.tapes_are;
      fits = omega (arith, cells_are m text s k n e, leb-true (24 * n) (length work) (and_true room (leb (24 * n) (length work)) (sym h ∙ f)).1);
    }

    -- and what is found is the answer
    pub path_found : b ≡ true → (a : Answer (Option Told)) (left : List ℕ)
        → ((t : Tuple) → Stands text t s → length t ≡ m.tapes
        → (a ≡ told_answer (listed (places_in list) (least_path ℕ_sum (table_of m) t))) × (left ≡ path_in (listed (places_in list) (least_path ℕ_sum (table_of m) t)) list))
        → Tells a left
    path_found f a left g =
        let t = g k.tuple k.stands k.tapes_are in
        let same = call_passed ∙ ap (λ (x : Bool). judge x 13 (listed (places_in list) (least_path ℕ_sum (table_of m) k.tuple))) f in
        (t.0 ∙ sym (ap told_answer same), t.1 ∙ sym (ap (λ (x : Answer (Option (Account ℕ))). path_in x list) same))

-- what is told by value has room
pub call_outcome : (m : Memory) (text list work : List ℕ) (x : PathFound) → x ≡ list_path (path_answer m text true list work) list work → x ≡ path_outcome m text list work
unfolding path_outcome
call_outcome m text list work x e = e
