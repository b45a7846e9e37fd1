-- A table and a tuple judged: the first refusal is that of every call which begins so, and where there is none the call
-- goes on with them.
use mathlib.Core.Path.{◌≡◌, refl, sym, ap, ◌∙◌}
use mathlib.Core.Bool.{Bool, true, false}
use mathlib.Core.List.{List}
use Prim.Native.Nat.{ℕ, ◌*◌, ◌≤◌}
use native.Mathlib.Omega.{arith}
use native.Mathlib.Nat.{mul-le-mul}
use lib.Dec.{eqb, leb}
use lib.ListN.{length}
use Rattle.automata.specs.Lists.{all}
use Rattle.automata.specs.Limits.{max_string}
use Rattle.automata.specs.Symbols.{is_symbol}
use Rattle.automata.specs.Answer.{◌>>=◌, Answer, ok, refused, forget, judge, require}
use Rattle.automata.specs.Automaton.{Automaton, Tuple, size}
use Rattle.automata.specs.Memory.{Memory, decode_table, table_of, Sound}
use Rattle.automata.specs.Calls.Work.{combinations}
use Rattle.automata.specs.Calls.Lookup.{lines}
use Rattle.automata.proofs.AnswerFacts.{refused≢ok}
use Rattle.automata.proofs.SoundFacts.{sound, sound_decoded, sound_holds}
use Rattle.table.specs.declared.answer.Refusal.{Refusal}
use Rattle.std.specs.Prelude.{Ok, Err}
use Rattle.table.specs.Answers.{refusal_number}
use Rattle.table.proofs.AnswerFacts.{forget-ok}
use Rattle.table.proofs.SoundFacts.{few_tapes, few_states}
use Rattle.lookup_tuple.specs.declared.Strings.{Strings}
use Rattle.lookup_tuple.specs.Judgement.{tuple_tests, tuple_answer, TupleJudged, refused_as, JudgedTuple}
use Rattle.lookup_tuple.specs.Positions.{positions, ShortStrings}
use Rattle.lookup_tuple.proofs.PositionFacts.{stands_short, stands_positions}
use Rattle.lookup.specs.Judgement.{answer_by, Called, JudgedCall}

-- the number of work cells fits 64 bits
pub cells_fit : (states n : ℕ) → states ≤ 1024 → n ≤ 318644812890625 → states * n ≤ 326292288400000000
cells_fit states n h k = let p : states * n ≤ 1024 * 318644812890625 = mul-le-mul h k in omega (arith, p)

-- the tests of a tuple before an answer
pub tests-first : {X : Type 0} (tapes : ℕ) (t : Tuple) (a : Answer X)
    → judge (eqb (length t) tapes) 5 (judge (all (λ s. leb (length s) max_string) t) 3 (judge (all (λ s. all is_symbol s) t) 2 a)) ≡ (tuple_tests tapes t >>= λ u. a)
unfolding tuple_tests
tests-first tapes t a = go (eqb (length t) tapes) (all (λ s. leb (length s) max_string) t) (all (λ s. all is_symbol s) t)
  where
    go : (x y z : Bool) → judge x 5 (judge y 3 (judge z 2 a)) ≡ (judge x 5 (judge y 3 (require z 2)) >>= λ u. a)
    go false y z = refl
    go true false z = refl
    go true true false = refl
    go true true true = refl

-- a call that answers so of each table and tuple
pub answers_by : {X : Type 0} (m : Memory) (text : List ℕ) (call onward : Automaton ℕ → Tuple → Answer X)
    → ((A : Automaton ℕ) (t : Tuple) → call A t ≡ (tuple_tests A.tapes t >>= λ u. onward A t))
    → (decode_table m >>= λ A. lines text >>= λ t. call A t) ≡ answer_by m text onward
answers_by {X} m text call onward same = go (decode_table m)
  where
    text_by : (A : Automaton ℕ) (a : Answer Tuple) → (a >>= λ t. call A t) ≡ (a >>= λ t. tuple_tests A.tapes t >>= λ u. onward A t)
    text_by A (ok t) = same A t
    text_by A (refused n) = refl

    go : (d : Answer (Automaton ℕ)) → (d >>= λ A. lines text >>= λ t. call A t) ≡ (d >>= λ A. lines text >>= λ t. tuple_tests A.tapes t >>= λ u. onward A t)
    go (ok A) = text_by A (lines text)
    go (refused n) = refl

module _ (m : Memory) (text : List ℕ) where
  -- what is refused before an answer is refused whatever follows
  judged_first : {X : Type 0} (n : ℕ) → refused n ≡ answer_by {X = Unit {0}} m text (λ A t. ok (tt {0})) → (onward : Automaton ℕ → Tuple → Answer X) → answer_by m text onward ≡ refused n
  judged_first {X} n e onward = go (decode_table m) e
    where
      passes : (A : Automaton ℕ) (t : Tuple) (a : Answer (Unit {0})) → refused n ≡ (a >>= λ u. ok (tt {0})) → (a >>= λ u. onward A t) ≡ refused n
      passes A t (ok u) k = absurd (refused≢ok k)
      passes A t (refused p) k = let q : n ≡ p = cc in ap refused (sym q)

      reads : (A : Automaton ℕ) (a : Answer Tuple) → refused n ≡ (a >>= λ t. tuple_tests A.tapes t >>= λ u. ok (tt {0}))
          → (a >>= λ t. tuple_tests A.tapes t >>= λ u. onward A t) ≡ refused n
      reads A (ok t) k = passes A t (tuple_tests A.tapes t) k
      reads A (refused p) k = let q : n ≡ p = cc in ap refused (sym q)

      go : (d : Answer (Automaton ℕ)) → refused n ≡ (d >>= λ A. lines text >>= λ t. tuple_tests A.tapes t >>= λ u. ok (tt {0}))
          → (d >>= λ A. lines text >>= λ t. tuple_tests A.tapes t >>= λ u. onward A t) ≡ refused n
      go (ok A) k = reads A (lines text) k
      go (refused p) k = let q : n ≡ p = cc in ap refused (sym q)

  -- a judgement that refuses is the answer
  pub judged_refused : {X : Type 0} (why : Refusal) → JudgedCall m text (Err why) → (onward : Automaton ℕ → Tuple → Answer X) → answer_by m text onward ≡ refused (refusal_number why)
  judged_refused why j onward = judged_first (refusal_number why) j.answer onward

  module _ (s : Strings) (k : Called m text s) where
    -- the answer where both pass
    pub called_answer : {X : Type 0} (onward : Automaton ℕ → Tuple → Answer X) → answer_by m text onward ≡ onward (table_of m) k.tuple
    called_answer {X} onward =
        ap (λ (d : Answer (Automaton ℕ)). d >>= λ A. lines text >>= λ t. tuple_tests A.tapes t >>= λ u. onward A t) (sound_decoded m k.sound)
        ∙ ap (λ (a : Answer Tuple). a >>= λ t. tuple_tests (table_of m).tapes t >>= λ u. onward (table_of m) t) k.lines_are
        ∙ ap (λ (n : ℕ). tuple_tests n k.tuple >>= λ u. onward (table_of m) k.tuple) (sym (sound_holds m k.sound).tapes)
        ∙ ap (λ (a : Answer (Unit {0})). a >>= λ u. onward (table_of m) k.tuple) k.passed

    pub called_size : size (table_of m) ≡ m.states
    called_size = sym (sound_holds m k.sound).states

    -- its strings are short, and its states few
    pub called_short : (m.states ≤ 1024) × ShortStrings s
    called_short = (few_states m k.sound, stands_short text k.tuple s k.stands)

    -- the number of work cells
    pub cells_are : (n : ℕ) → n ≡ m.states * positions s.lengths → n ≡ m.states * combinations k.tuple
    cells_are n e = e ∙ ap (λ (q : ℕ). m.states * q) (stands_positions text k.tuple s k.stands)

  -- ---- the judgement by its steps

  -- a table that is refused
  pub table-refused : (why : Refusal) → refused (refusal_number why) ≡ forget (decode_table m) → JudgedCall m text (Err why)
  table-refused why e = record { answer = go (decode_table m) e; called = λ s g. cc }
    where
      go : (d : Answer (Automaton ℕ)) → refused (refusal_number why) ≡ forget d
          → refused (refusal_number why) ≡ (d >>= λ A. lines text >>= λ t. tuple_tests A.tapes t >>= λ u. ok (tt {0}))
      go (ok A) k = absurd (refused≢ok k)
      go (refused n) k = let q : refusal_number why ≡ n = cc in ap refused q

  -- a table that passes, and the tuple judged
  pub tuple_judged : (r : TupleJudged) → ok tt ≡ forget (decode_table m) → JudgedTuple text m.tapes r → JudgedCall m text r
  unfolding tuple_answer
  tuple_judged r e p = record { answer = p.answer ∙ sym by_tuple; called = called }
    where
      s : Sound m
      s = let a = forget-ok (decode_table m) (sym e) in sound m a.0 a.1

      unit : (a : Answer (Unit {0})) → (a >>= λ u. ok (tt {0})) ≡ a
      unit (ok u) = refl
      unit (refused n) = refl

      each : (n : ℕ) (a : Answer Tuple) → (a >>= λ t. tuple_tests n t >>= λ u. ok (tt {0})) ≡ (a >>= λ t. tuple_tests n t)
      each n (ok t) = unit (tuple_tests n t)
      each n (refused k) = refl

      by_tuple : answer_by {X = Unit {0}} m text (λ A t. ok (tt {0})) ≡ (lines text >>= λ t. tuple_tests m.tapes t)
      by_tuple =
          ap (λ (d : Answer (Automaton ℕ)). d >>= λ A. lines text >>= λ t. tuple_tests A.tapes t >>= λ u. ok (tt {0})) (sound_decoded m s)
          ∙ each (table_of m).tapes (lines text) ∙ ap (λ (n : ℕ). lines text >>= λ t. tuple_tests n t) (sym (sound_holds m s).tapes)

      called : (v : Strings) → r ≡ Ok v → Called m text v
      called v g =
          let t = p.stands (few_tapes m s) v g in record {
            sound = s;
            tuple = t.tuple;
            lines_are = t.lines_are;
            stands = t.stands;
            tapes_are = t.tapes_are;
            passed = sym (ap refused_as (sym g) ∙ p.answer ∙ ap (λ (a : Answer Tuple). a >>= λ z. tuple_tests m.tapes z) t.lines_are);
          }
