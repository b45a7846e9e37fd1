-- The states to take up at a combination, first in, first out: a mark for each of 1,024 states, a ring of 1,024 numbers
-- of states, where it begins, and how many stand in it.
use Rattle.std.specs.Prelude.{◌≡◌, ◌≢◌, List, ℕ, zero, suc, ◌+◌, ◌%◌, ◌≤◌, ◌<◌, length, get_or}

-- where the ring begins, and how many stand in it
abbrev pub begin_of : List ℕ → ℕ
begin_of m = get_or m 2048 0

abbrev pub count_of : List ℕ → ℕ
count_of m = get_or m 2049 0

-- the place of the i-th from the beginning
abbrev pub place_of : List ℕ → ℕ → ℕ
place_of m i = 1024 + (begin_of m + i) % 1024

-- the marks of the first n states, added up
unfoldable pub marked : ℕ → List ℕ → ℕ
marked zero m = 0
marked (suc n) m = marked n m + get_or m n 0

-- state q stands in the ring
pub record Waits (m : List ℕ) (q : ℕ) : Type 0 where
  pub turn : ℕ
  pub within : turn < count_of m
  pub there : get_or m (place_of m turn) 0 ≡ q

-- every state with a mark stands in the ring, which holds no more than there are marks
pub record Queue (m : List ℕ) : Type 0 where
  pub size_is : length m ≡ 2050
  pub begins : begin_of m < 1024
  pub one : (q : ℕ) → q < 1024 → get_or m q 0 ≤ 1
  pub few : count_of m ≤ marked 1024 m
  pub states : (i : ℕ) → i < 1024 → get_or m (1024 + i) 0 < 1024
  pub waits : (q : ℕ) → q < 1024 → 0 < get_or m q 0 → Waits m q

-- state p was put behind the last, unless it stood there, and the queue went from m to n
pub record Enqueues (p : ℕ) (n m : List ℕ) : Type 0 where
  pub queue : Queue n
  pub same_length : length n ≡ length m
  pub own : 0 < get_or n p 0
  pub keeps : (q : ℕ) → q < 1024 → 0 < get_or m q 0 → 0 < get_or n q 0
  pub at_most : count_of n ≤ count_of m + 1

-- state p was the first, and was taken away
pub record Dequeues (p : ℕ) (n m : List ℕ) : Type 0 where
  pub queue : Queue n
  pub same_length : length n ≡ length m
  pub state : p < 1024
  pub keeps : (q : ℕ) → q < 1024 → q ≢ p → 0 < get_or m q 0 → 0 < get_or n q 0
  pub one_less : count_of n < count_of m
