-- The judgement of a call that reads a table and the text of a tuple: first the table, then the tuple.
use Rattle.std.specs.Prelude.{Ok, ◌≡◌, List, ℕ, length}
use Rattle.automata.specs.Answer.{◌>>=◌, Answer, ok}
use Rattle.automata.specs.Automaton.{Automaton, Tuple}
use Rattle.automata.specs.Memory.{Memory, Sound, decode_table}
use Rattle.automata.specs.Calls.Lookup.{lines}
use Rattle.lookup_tuple.specs.declared.Strings.{Strings}
use Rattle.lookup_tuple.specs.Strings.{Stands}
use Rattle.lookup_tuple.specs.Judgement.{tuple_tests, TupleJudged, refused_as}

-- the first refusal of the table, the text and the tuple, else what is answered of a table and a tuple
abbrev pub answer_by : {X : Type 0} → Memory → List ℕ → (Automaton ℕ → Tuple → Answer X) → Answer X
answer_by m text onward = decode_table m >>= λ A. lines text >>= λ t. tuple_tests A.tapes t >>= λ u. onward A t

-- a table and a tuple that pass, the strings of the tuple at their places in the text
pub record Called (m : Memory) (text : List ℕ) (s : Strings) : Type 0 where
  pub sound : Sound m
  pub tuple : Tuple
  pub lines_are : lines text ≡ ok tuple
  pub stands : Stands text tuple s
  pub tapes_are : length tuple ≡ m.tapes
  pub passed : tuple_tests m.tapes tuple ≡ ok tt

-- the first refusal, and where there is none the table and the tuple
pub record JudgedCall (m : Memory) (text : List ℕ) (r : TupleJudged) : Type 0 where
  pub answer : refused_as r ≡ answer_by m text (λ A t. ok tt)
  pub called : (s : Strings) → r ≡ Ok s → Called m text s
