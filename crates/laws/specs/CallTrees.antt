-- Lists of calls: each call takes tables that are lent or that earlier calls gave. What the last call gives, and the
-- same calls made again.
use Rattle.std.specs.Prelude.{◌≡◌, List, [], ℕ, ◌≤◌, length}
use Rattle.automata.specs.Answer.{Answer, ok, refused, ◌>>=◌}
use Rattle.automata.specs.Automaton.{Automaton}
use Rattle.automata.specs.TapePair.{TapePair}
use Rattle.automata.specs.Memory.{Memory, table_of, Sound, trim}
use Rattle.automata.specs.Calls.Outcome.{Slices, space_of, given}
use Rattle.automata.specs.Calls.Work.{build_work, product_work, join_work}
use Rattle.automata.specs.Calls.Read.{read_outcome}
use Rattle.automata.specs.Calls.Intersect.{intersect_outcome}
use Rattle.automata.specs.Calls.Product.{product_outcome}
use Rattle.automata.specs.Calls.Union.{union_outcome}
use Rattle.automata.specs.Calls.Project.{project_outcome}
use Rattle.automata.specs.Calls.Drop.{drop_outcome}
use Rattle.laws.specs.GivenAgain.{NoLower}
use Rattle.laws.specs.CallLaws.{JoinLent, join_made, WiderSlices}

-- A list of calls, by its last one. A call stands above those that gave its tables; each has limits and space of its
-- own.
pub data Calls : Type 0 where
  -- no call: a table that stands in memory
  lent : Memory → Calls
  -- a text
  reading : List ℕ → Slices → Calls
  -- the auto-intersection: pairs with their limits, result space, work space
  keeping : Calls → List TapePair → Slices → List ℕ → Calls
  multiplying : Calls → Calls → Slices → List ℕ → Calls
  joining : JoinLent → List TapePair → Calls → Calls → Calls
  uniting : Calls → Calls → Slices → Calls
  -- tapes by their numbers, tapes by a mask
  choosing : Calls → List ℕ → Slices → Calls
  dropping : Calls → ℕ → Slices → Calls

-- the table in memory that the last call gives, or the first refusal
unfoldable pub made : Calls → Answer Memory
made (lent m) = ok m
made (reading x s) = given (read_outcome x s)
made (keeping c ps s w) = made c >>= λ m. given (intersect_outcome m ps s w).made
made (multiplying c d s w) = made c >>= λ m. made d >>= λ k. given (product_outcome m k s w).made
made (joining l ps c d) = made c >>= λ m. made d >>= λ k. given (join_made l ps m k)
made (uniting c d s) = made c >>= λ m. made d >>= λ k. given (union_outcome m k s)
made (choosing c js s) = made c >>= λ m. given (project_outcome m js s)
made (dropping c mask s) = made c >>= λ m. given (drop_outcome m mask s)

-- no call of the list is refused
abbrev pub Gave : Calls → Type 0
Gave c = (m : Memory) × (made c ≡ ok m)

-- the automaton that stands in memory, if a table was given
unfoldable pub given-table : Answer Memory → Automaton ℕ
given-table (ok m) = table_of m
given-table (refused n) = record { tapes = 1; states = []; arcs = [] }

-- the automaton that the calls give, where none is refused
abbrev pub table : Calls → Automaton ℕ
table c = given-table (made c)

-- ---- the tables stand in their bytes

-- what the calls give is a table: the counts told and the bytes left hold it
abbrev pub Stands : Calls → Type 0
Stands c = (m : Memory) → made c ≡ ok m → Sound m

-- and so is every table that was lent or given before
abbrev pub AllStand : Calls → Type 0
AllStand (lent m) = Sound m
AllStand (reading x s) = Stands (reading x s)
AllStand (keeping c ps s w) = AllStand c × Stands (keeping c ps s w)
AllStand (multiplying c d s w) = AllStand c × AllStand d × Stands (multiplying c d s w)
AllStand (joining l ps c d) = AllStand c × AllStand d × Stands (joining l ps c d)
AllStand (uniting c d s) = AllStand c × AllStand d × Stands (uniting c d s)
AllStand (choosing c js s) = AllStand c × Stands (choosing c js s)
AllStand (dropping c mask s) = AllStand c × Stands (dropping c mask s)

-- at least one call
abbrev pub IsCall : Calls → Type 0
IsCall c = (m : Memory) → ¬ (c ≡ lent m)

-- ---- made again

-- The calls c made again as c': the same texts, pairs and tapes, no limit of a pair lower and none above 64, no space
-- smaller, as much work space as the calls ask for.
pub data NoLess : Calls → Calls → Type 0 where
  -- the same records, whatever bytes follow them and whatever calls gave them
  no_less_table : (c c' : Calls) (m m' : Memory) → made c ≡ ok m → made c' ≡ ok m' → trim m' ≡ trim m → NoLess c c'
  no_less_reading : (x : List ℕ) (s s' : Slices) → WiderSlices s s' → NoLess (reading x s) (reading x s')
  no_less_keeping : (c c' : Calls) (ps qs : List TapePair) (s s' : Slices) (w w' : List ℕ) → NoLess c c' → NoLower ps qs → WiderSlices s s'
      → ((m : Memory) → made c' ≡ ok m → build_work (space_of s') m.states ≤ length w') → NoLess (keeping c ps s w) (keeping c' qs s' w')
  no_less_multiplying : (c c' d d' : Calls) (s s' : Slices) (w w' : List ℕ) → NoLess c c' → NoLess d d' → WiderSlices s s'
      → product_work (space_of s') ≤ length w' → NoLess (multiplying c d s w) (multiplying c' d' s' w')
  no_less_joining : (l l' : JoinLent) (ps qs : List TapePair) (c c' d d' : Calls) → NoLess c c' → NoLess d d' → NoLower ps qs
      → WiderSlices l.product l'.product → WiderSlices l.result l'.result
      → join_work (space_of l'.product) (space_of l'.result) ≤ length l'.work → NoLess (joining l ps c d) (joining l' qs c' d')
  no_less_uniting : (c c' d d' : Calls) (s s' : Slices) → NoLess c c' → NoLess d d' → WiderSlices s s' → NoLess (uniting c d s) (uniting c' d' s')
  no_less_choosing : (c c' : Calls) (js : List ℕ) (s s' : Slices) → NoLess c c' → WiderSlices s s' → NoLess (choosing c js s) (choosing c' js s')
  no_less_dropping : (c c' : Calls) (mask : ℕ) (s s' : Slices) → NoLess c c' → WiderSlices s s' → NoLess (dropping c mask s) (dropping c' mask s')

-- where c gives a table, c' is not refused and gives the same counts and the same bytes of records
abbrev pub Again : Calls → Calls → Type 0
Again c c' = (r : Memory) → made c ≡ ok r → (r' : Memory) × (made c' ≡ ok r') × (trim r' ≡ trim r)
