-- What the call `path` tells (document 02, 2.3: the arcs behind a weight), on bytes: by value, and in lent bytes.
use Rattle.std.specs.Prelude.{◌≡◌, ◌↔◌, List, ℕ, ◌*◌, ◌≤◌, ◌<◌, length, take, drop}
use Rattle.std.proofs.Math.Option.{Option, none, some, map}
use Rattle.automata.specs.Answer.{ok}
use Rattle.automata.specs.OrderedSum.{ℕ_sum}
use Rattle.automata.specs.Automaton.{Tuple}
use Rattle.automata.specs.Paths.{SuccessfulPath, weight, NoWeight}
use Rattle.automata.specs.LeastPath.{FirstLeast}
use Rattle.automata.specs.Format.{Format, pair}
use Rattle.automata.specs.Sequence.{read_first, read_many}
use Rattle.automata.specs.LittleEndian.{little}
use Rattle.automata.specs.Memory.{Memory, Sound, table_of}
use Rattle.automata.specs.Calls.Outcome.{overwrite}
use Rattle.automata.specs.Calls.Work.{lookup_work}
use Rattle.automata.specs.Calls.Lookup.{lookup_outcome}
use Rattle.automata.specs.Calls.LeastPath.{entry_size, places_in, entries, Told, path_outcome, told_size, told_bytes, path_recorded}
use Rattle.laws.specs.Lookup.{tuple_text}

-- ---- a path that is told

-- The path told with x, for the tuple t on the table m: the first of the least ones, by its weight, its start and its
-- number of arcs. Its arc numbers stand over the front of the list, from which they can be read again.
pub record PathTold (m : Memory) (t : Tuple) (list left : List ℕ) (x : Told) : Type 0 where
  pub path : SuccessfulPath (table_of m)
  pub first : FirstLeast ℕ_sum (table_of m) t path
  pub weight_told : x.weight ≡ weight ℕ_sum path
  pub start_told : x.start ≡ path.start
  pub arcs_told : x.arcs ≡ length path.run
  pub has_places : x.arcs ≤ places_in list
  pub listed : left ≡ overwrite (entries path.run) list
  pub read_again : read_many (little entry_size) x.arcs left ≡ ok (path.run, drop (x.arcs * entry_size) list)
  -- 64 bits hold the weight; there are at most 1,024 states, and 1,024 × (1 + 8 × 64) arcs are enough
  pub small : x.weight < 18446744073709551616
  pub state : x.start < 1024
  pub few_arcs : x.arcs ≤ 525312

-- What an answer o that is no refusal tells: the text is that of one tuple, the table is judged good, and a path is
-- told, or none exactly where no path spells the tuple. A lookup of the same text, lent its work space, tells the same
-- weight.
pub record PathAnswered (m : Memory) (text list left : List ℕ) (o : Option Told) : Type 0 where
  pub tuple : Tuple
  pub text_is : text ≡ tuple_text tuple
  pub judged : Sound m
  pub width : length tuple ≡ (table_of m).tapes
  pub told : (x : Told) → o ≡ some x → PathTold m tuple list left x
  pub nothing : (o ≡ none) ↔ NoWeight ℕ_sum (table_of m) tuple
  pub looked_up : (work : List ℕ) → lookup_work m.states tuple ≤ length work
      → (lookup_outcome m text work).answer ≡ ok (map (λ x. x.weight) o)

-- ---- in bytes

-- the numbers of what is told: weight, 0 for a second part of it, starting state, number of arcs
abbrev pub told_format : Format ℕ (ℕ × (ℕ × (ℕ × ℕ)))
told_format = pair (little 8) (pair (little 8) (pair (little 4) (little 4)))

-- they stand over the front of the result space, from which they can be read again
pub record ToldInBytes (x : Told) (result left : List ℕ) : Type 0 where
  pub has_room : told_size ≤ length result
  pub written : left ≡ overwrite (told_bytes x) result
  pub read_again : read_first told_format left ≡ ok ((x.weight, (0, (x.start, x.arcs))), drop told_size result)

-- ---- the calls

-- where a path is told, the same first bytes, so many for what is told
abbrev pub SameFront : (Told → ℕ) → Option Told → List ℕ → List ℕ → Type 0
SameFront bytes o left left' = (x : Told) → o ≡ some x → take (bytes x) left' ≡ take (bytes x) left

-- By value and in bytes, which answer alike where there is room for what is told; and given again: where no list,
-- result space and work space is shorter, the same is told, and the same arc numbers stand in the list.
pub record PathCalls : Type 0 where
  pub path : (m : Memory) (text list work : List ℕ) (o : Option Told) → (path_outcome m text list work).answer ≡ ok o
      → PathAnswered m text list (path_outcome m text list work).list o
  pub recorded : (m : Memory) (text result list work : List ℕ) (o : Option Told) → (path_recorded m text result list work).found.answer ≡ ok o
      → PathAnswered m text list (path_recorded m text result list work).found.list o
      × ((x : Told) → o ≡ some x → ToldInBytes x result (path_recorded m text result list work).result)
  pub alike : (m : Memory) (text result list work : List ℕ) → told_size ≤ length result
      → (path_recorded m text result list work).found ≡ path_outcome m text list work
  pub path_again : (m : Memory) (text list list' work work' : List ℕ) (o : Option Told) → length list ≤ length list' → length work ≤ length work'
      → (path_outcome m text list work).answer ≡ ok o
      → ((path_outcome m text list' work').answer ≡ ok o)
      × SameFront (λ x. x.arcs * entry_size) o (path_outcome m text list work).list (path_outcome m text list' work').list
  pub recorded_again : (m : Memory) (text result result' list list' work work' : List ℕ) (o : Option Told)
      → length result ≤ length result' → length list ≤ length list' → length work ≤ length work'
      → (path_recorded m text result list work).found.answer ≡ ok o
      → ((path_recorded m text result' list' work').found.answer ≡ ok o)
      × SameFront (λ x. x.arcs * entry_size) o (path_recorded m text result list work).found.list (path_recorded m text result' list' work').found.list
      × SameFront (λ x. told_size) o (path_recorded m text result list work).result (path_recorded m text result' list' work').result
