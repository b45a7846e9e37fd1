-- The call `path` (document 02, 2.3: the arcs behind a weight). The arc numbers stand over the front of a lent list.
-- For Rattle the weight, the starting state and the number of arcs are told by value, for C in lent bytes.
use Rattle.std.specs.Prelude.{Bool, true, List, ◌++◌, ℕ, zero, ◌/◌, length}
use Rattle.std.proofs.Math.Option.{Option, none, some}
use Rattle.automata.specs.Lists.{and}
use Rattle.automata.specs.Answer.{◌>>=◌, Answer, ok, refused}
use Rattle.automata.specs.Automaton.{size}
use Rattle.automata.specs.Records.{write_all}
use Rattle.automata.specs.LittleEndian.{little}
use Rattle.automata.specs.Memory.{Memory, decode_table}
use Rattle.automata.specs.LeastPath.{Account}
use Rattle.automata.specs.LeastPathCall.{least_path_call}
use Rattle.automata.specs.Calls.Lookup.{lines}
use Rattle.automata.specs.Calls.Outcome.{overwrite, cleared}
use Rattle.automata.specs.Calls.Work.{path_work, enough}

-- ---- the list

-- the bytes of an arc number
abbrev pub entry_size : ℕ
entry_size = 2

-- the arc numbers that a lent list has places for
abbrev pub places_in : List ℕ → ℕ
places_in list = length list / entry_size

-- arc numbers as they stand in a list, the low byte first
abbrev pub entries : List ℕ → List ℕ
entries run = write_all (little entry_size).write run

-- ---- the answer

-- The table, then the tuple's text (1), then 5, 3 and 2 of the tuple, 13 where the work space is too short or there is
-- no room for what is told, and last 14.
unfoldable pub path_answer : Memory → List ℕ → Bool → List ℕ → List ℕ → Answer (Option (Account ℕ))
path_answer table text room list work = do
  A ← decode_table table
  t ← lines text
  least_path_call (and room (enough (path_work (size A) t) work)) (places_in list) A t

-- ---- by value

-- what is told of a path beside its list: weight, starting state and number of arcs
pub record Told : Type 0 where
  pub weight : ℕ
  pub start : ℕ
  pub arcs : ℕ

-- of an account
abbrev pub told_of : Account ℕ → Told
told_of x = record { weight = x.weight; start = x.path.start; arcs = length x.path.run }

-- a path, none or a refusal, the list and the work space
pub record PathFound : Type 0 where
  pub answer : Answer (Option Told)
  pub list : List ℕ
  pub work : List ℕ

-- the same by its parts, as a contract names them
abbrev pub path_found_of : Answer (Option Told) → List ℕ → List ℕ → PathFound
path_found_of answer list work = record { answer = answer; list = list; work = work }

-- what is told of an answer
abbrev pub told_answer : Answer (Option (Account ℕ)) → Answer (Option Told)
told_answer (ok (some x)) = ok (some (told_of x))
told_answer (ok none) = ok none
told_answer (refused n) = refused n

-- the path stands over the front of the list; without a path, or refused, "the list keeps its bytes"
abbrev pub path_in : Answer (Option (Account ℕ)) → List ℕ → List ℕ
path_in (ok (some x)) list = overwrite (entries x.path.run) list
path_in (ok none) list = list
path_in (refused n) list = list

-- both, and the work space
abbrev pub list_path : Answer (Option (Account ℕ)) → List ℕ → List ℕ → PathFound
list_path a list work = path_found_of (told_answer a) (path_in a list) (cleared work)

-- the whole outcome; what is told by value has room
unfoldable pub path_outcome : Memory → List ℕ → List ℕ → List ℕ → PathFound
path_outcome table text list work = list_path (path_answer table text true list work) list work

-- ---- in bytes

-- the bytes of what is told
abbrev pub told_size : ℕ
told_size = 24

-- weight (8 bytes), room for a second part of it (8), starting state (4) and number of arcs (4), the low byte first
abbrev pub told_bytes : Told → List ℕ
told_bytes x = (little 8).write x.weight ++ ((little 8).write zero ++ ((little 4).write x.start ++ (little 4).write x.arcs))

-- they stand over the front of the result space; without a path, or refused, it keeps its bytes
abbrev pub record_told : Answer (Option Told) → List ℕ → List ℕ
record_told (ok (some x)) result = overwrite (told_bytes x) result
record_told (ok none) result = result
record_told (refused n) result = result

-- the same as by value, and the result space
pub record PathRecorded : Type 0 where
  pub found : PathFound
  pub result : List ℕ

-- the same by its parts, as a contract names them
abbrev pub path_recorded_of : Answer (Option Told) → List ℕ → List ℕ → List ℕ → PathRecorded
path_recorded_of answer result list work = record { found = path_found_of answer list work; result = result }

-- the whole outcome: 13 also where the result space is shorter than what is told
unfoldable pub path_recorded : Memory → List ℕ → List ℕ → List ℕ → List ℕ → PathRecorded
path_recorded table text result list work =
    let found = list_path (path_answer table text (enough told_size result) list work) list work in
    record { found = found; result = record_told found.answer result }
