-- The judgement of a text by its steps: what each way out of it answers, and what is known where nothing is refused.
use mathlib.Core.Path.{◌≡◌, refl, sym, ap, subst, ◌∙◌}
use mathlib.Core.Bool.{Bool, true, false}
use mathlib.Core.List.{List}
use Prim.Native.Nat.{ℕ, ◌+◌, ◌≤◌, ◌<◌}
use native.Mathlib.Omega.{arith}
use lib.Dec.{eqb, leb, eqb→eq}
use lib.ListN.{length}
use borrow.Author.Tests.{eq-eqb, ne_eqb}
use Rattle.automata.specs.Lists.{all}
use Rattle.automata.specs.Symbols.{is_symbol}
use Rattle.automata.specs.Answer.{◌>>=◌, Answer, ok, refused, forget, judge, require}
use Rattle.automata.specs.Automaton.{Tuple}
use Rattle.automata.specs.Calls.Lookup.{lines}
use Rattle.automata.proofs.AnswerFacts.{refused≢ok, ok_injective, bind_ok, judge-ok}
use Rattle.automata.proofs.TestFacts.{T_true}
use Rattle.automata.specs.Limits.{max_string}
use Rattle.lookup_tuple.specs.Lines.{counted, every}
use Rattle.table.specs.declared.answer.Refusal.{Refusal}
use Rattle.table.specs.Answers.{refusal_number}
use Rattle.std.specs.Prelude.{Ok, Err}
use Rattle.lookup_tuple.specs.declared.Strings.{Strings}
use Rattle.lookup_tuple.specs.Judgement.{tuple_tests, tuple_answer, Placeable, Placed, Tupled, JudgedTuple}

-- the tests of each string
abbrev pub fits : List ℕ → Bool
fits s = leb (length s) max_string

abbrev pub symbols : List ℕ → Bool
symbols s = all is_symbol s

-- ---- the tests of a tuple, by an answer that gives it
module _ (a : Answer Tuple) (tapes : ℕ) where
  -- no tuple
  tested_unended : refused 1 ≡ counted a 0 → refused 1 ≡ (a >>= λ t. tuple_tests tapes t)
  tested_unended e = go a e
    where
      go : (a : Answer Tuple) → refused 1 ≡ counted a 0 → refused 1 ≡ (a >>= λ t. tuple_tests tapes t)
      go (ok t) e = absurd (refused≢ok e)
      go (refused k) e = let n : 1 ≡ k = cc in ap refused n

  module _ (n : ℕ) (e : ok n ≡ counted a 0) where
    -- a tuple of so many strings
    tested-tuple : (t : Tuple) × (a ≡ ok t) × (length t ≡ n)
    tested-tuple =
        let b = bind_ok a (λ t. ok (0 + length t)) n (sym e) in
        let k : 0 + length b.0 ≡ n = ok_injective (0 + length b.0) n b.2 in
        (b.0, b.1, omega (arith, k))

    tested_closed : forget a ≡ ok tt
    tested_closed = ap forget tested-tuple.1

    -- every string of it passes a test, or not
    tested-all : (p : List ℕ → Bool) (b : Bool) → ok b ≡ every p a → all p tested-tuple.0 ≡ b
    tested-all p b f = sym (ok_injective b (all p tested-tuple.0) (f ∙ ap (every p) tested-tuple.1))

    -- by the results of the tests
    tested_by : (x y z : Bool) → eqb (length tested-tuple.0) tapes ≡ x → all fits tested-tuple.0 ≡ y → all symbols tested-tuple.0 ≡ z
        → judge x 5 (judge y 3 (require z 2)) ≡ (a >>= λ t. tuple_tests tapes t)
    unfolding tuple_tests
    tested_by x y z f g h = sym (ap (λ (a : Answer Tuple). a >>= λ t. tuple_tests tapes t) tested-tuple.1 ∙ (rw (f, g, h)))

-- ---- the same of a text
module _ (text : List ℕ) (tapes : ℕ) where
  -- text after the last line
  pub judged_unended : refused 1 ≡ counted (lines text) 0 → refused 1 ≡ tuple_answer text tapes
  unfolding tuple_answer
  judged_unended e = tested_unended (lines text) tapes e

  module _ (n : ℕ) (e : ok n ≡ counted (lines text) 0) where
    -- no text is left
    pub judged_closed : forget (lines text) ≡ ok tt
    judged_closed = tested_closed (lines text) tapes n e

    -- another number of strings than of tapes
    pub judged_tape : (n ≡ tapes → ⊥) → refused 5 ≡ tuple_answer text tapes
    unfolding tuple_answer
    judged_tape f =
        let t = tested-tuple (lines text) tapes n e in
        tested_by (lines text) tapes n e false (all fits t.0) (all symbols t.0) (ne_eqb (length t.0) tapes (λ g. f (sym t.2 ∙ g))) refl refl

    module _ (f : n ≡ tapes) where
      -- as many
      count_passes : eqb (length (tested-tuple (lines text) tapes n e).0) tapes ≡ true
      count_passes = eq-eqb (length (tested-tuple (lines text) tapes n e).0) tapes ((tested-tuple (lines text) tapes n e).2 ∙ f)

      -- a string that is too long
      pub judged_size : ok false ≡ every fits (lines text) → refused 3 ≡ tuple_answer text tapes
      unfolding tuple_answer
      judged_size g =
          tested_by (lines text) tapes n e true false (all symbols (tested-tuple (lines text) tapes n e).0) count_passes (tested-all (lines text) tapes n e fits false g) refl

      -- none too long: the bytes
      pub judged_bytes : ok true ≡ every fits (lines text) → (b : Bool) → ok b ≡ every symbols (lines text) → require b 2 ≡ tuple_answer text tapes
      unfolding tuple_answer
      judged_bytes g b h =
          tested_by (lines text) tapes n e true true b count_passes (tested-all (lines text) tapes n e fits true g) (tested-all (lines text) tapes n e symbols b h)

  -- where nothing is refused the strings can be placed
  pub judged_placeable : tapes ≤ 8 → ok tt ≡ tuple_answer text tapes → Placeable text tapes
  unfolding tuple_answer tuple_tests
  judged_placeable few e =
      let b = bind_ok (lines text) (λ t. tuple_tests tapes t) tt (sym e) in
      let c = judge-ok (eqb (length b.0) tapes) 5 (judge (all fits b.0) 3 (require (all symbols b.0) 2)) tt b.2 in
      let d = judge-ok (all fits b.0) 3 (require (all symbols b.0) 2) tt c.1 in
      record {
        tuple = b.0;
        lines_are = b.1;
        count_is = eqb→eq (length b.0) tapes c.0;
        few = few;
        sizes = T_true (all fits b.0) d.0;
      }

-- ---- the whole judgement
module _ (text : List ℕ) (tapes : ℕ) where
  -- a refusal
  pub tuple-refused : (k : Refusal) → refused (refusal_number k) ≡ tuple_answer text tapes → JudgedTuple text tapes (Err k)
  tuple-refused k e = record { answer = e; stands = λ few s f. cc }

  module _ (s : Strings) (e : ok tt ≡ tuple_answer text tapes) where
    -- more tapes than a table has
    pub tuple-wide : 8 < tapes → JudgedTuple text tapes (Ok s)
    tuple-wide h = record { answer = e; stands = λ few u f. absurd (omega (arith, h, few)) }

    -- the strings by their places
    pub tuple-placed : tapes ≤ 8 → Placed text s → JudgedTuple text tapes (Ok s)
    tuple-placed few p = record { answer = e; stands = λ few u f. let g : s ≡ u = cc in subst (λ (v : Strings). Tupled text tapes v) g own }
      where
        own : Tupled text tapes s
        own = let q = judged_placeable text tapes few e in record { tuple = q.tuple; lines_are = q.lines_are; stands = p.stands q.tuple q.lines_are; tapes_are = q.count_is }
