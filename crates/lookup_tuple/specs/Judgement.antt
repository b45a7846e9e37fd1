-- The tests of a tuple before its work space is judged, and what its judgement promises.
use Rattle.std.specs.Prelude.{Result, Ok, Err, ◌≡◌, true, List, ℕ, ◌≤◌, eqb, leb, length}
use Rattle.automata.specs.Limits.{max_string}
use Rattle.automata.specs.Lists.{all}
use Rattle.automata.specs.Refusal as refusal
use Rattle.automata.specs.Answer.{◌>>=◌, Answer, ok, refused, judge, require}
use Rattle.automata.specs.Automaton.{Tuple}
use Rattle.automata.specs.Symbols.{is_symbol}
use Rattle.automata.specs.Calls.Lookup.{lines}
use Rattle.table.specs.declared.answer.Refusal.{Refusal}
use Rattle.table.specs.Answers.{refusal_number}
use Rattle.lookup_tuple.specs.declared.Strings.{Strings}
use Rattle.lookup_tuple.specs.Strings.{Stands}

-- the number of strings (5), the size of each (3), their bytes (2)
unfoldable pub tuple_tests : ℕ → Tuple → Answer (Unit {0})
tuple_tests tapes t =
    judge (eqb (length t) tapes) refusal.tape
    (judge (all (λ s. leb (length s) max_string) t) refusal.size (require (all (λ s. all is_symbol s) t) refusal.form))

-- a text for a table with so many tapes: its lines (1), then these tests
unfoldable pub tuple_answer : List ℕ → ℕ → Answer (Unit {0})
tuple_answer text tapes = lines text >>= λ t. tuple_tests tapes t

-- a text of so many strings, at most eight and none too long
pub record Placeable (text : List ℕ) (count : ℕ) : Type 0 where
  pub tuple : Tuple
  pub lines_are : lines text ≡ ok tuple
  pub count_is : length tuple ≡ count
  pub few : count ≤ 8
  pub sizes : all (λ s. leb (length s) max_string) tuple ≡ true

-- the strings of a text stand at these places of it
pub record Placed (text : List ℕ) (s : Strings) : Type 0 where
  pub stands : (t : Tuple) → lines text ≡ ok t → Stands text t s

-- the strings of a text, as many as there are tapes, stand at these places of it
pub record Tupled (text : List ℕ) (tapes : ℕ) (s : Strings) : Type 0 where
  pub tuple : Tuple
  pub lines_are : lines text ≡ ok tuple
  pub stands : Stands text tuple s
  pub tapes_are : length tuple ≡ tapes

-- what the judgement of a text answers: the strings by their places, or the first refusal
abbrev pub TupleJudged : Type 0
TupleJudged = Result Strings Refusal

-- whether it is refused, and by which number
abbrev pub refused_as : TupleJudged → Answer (Unit {0})
refused_as (Ok s) = ok tt
refused_as (Err r) = refused (refusal_number r)

-- A text judged for a table with so many tapes: its first refusal, and where there is none its strings by their places.
pub record JudgedTuple (text : List ℕ) (tapes : ℕ) (r : TupleJudged) : Type 0 where
  pub answer : refused_as r ≡ tuple_answer text tapes
  pub stands : tapes ≤ 8 → (s : Strings) → r ≡ Ok s → Tupled text tapes s
