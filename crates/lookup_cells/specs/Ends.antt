-- The cells of final states at the last combination of positions, and the least weight from the initial states at the
-- first.
use Rattle.std.specs.Prelude.{◌≡◌, List, ℕ, zero, suc, ◌+◌, ◌-◌, ◌*◌, ◌≤◌, ◌<◌, min, length, get_or}
use Rattle.table.specs.Records.{Weight, state_at}
use Rattle.std.specs.Prelude.{Some, None}
use Rattle.lookup_moves.specs.Distances.{far, cells_of, lowered}
use Rattle.automata.specs.Layout.{state_size}

-- the cells after a final weight was found for cell k, where there is one
abbrev pub ended_by : Weight → ℕ → List ℕ → List ℕ
ended_by None k xs = xs
ended_by (Some w) k xs = lowered k w xs

-- the cells after the final weight of state q, there being so many combinations
unfoldable pub started : List ℕ → ℕ → ℕ → List ℕ → List ℕ
started states all q xs = ended_by (state_at (state_size * q) states).last (q * all + (all - 1)) xs

-- after those of n states from q on
unfoldable pub started_from : ℕ → ℕ → List ℕ → ℕ → List ℕ → List ℕ
started_from zero q states all xs = xs
started_from (suc n) q states all xs = started_from n (q + 1) states all (started states all q xs)

-- the final weight of a state, or those of some, took the cells of the work space from w to u
pub record Starts (states : List ℕ) (all q : ℕ) (u w : List ℕ) : Type 0 where
  pub cells_are : cells_of u ≡ started states all q (cells_of w)
  pub same_length : length u ≡ length w

-- those of the first n states did
pub record StartsAll (states : List ℕ) (all n : ℕ) (u w : List ℕ) : Type 0 where
  pub cells_are : cells_of u ≡ started_from n 0 states all (cells_of w)
  pub same_length : length u ≡ length w

-- the records of so many states are lent, and a cell for each of them and each combination
pub record Stated (states : List ℕ) (n all : ℕ) (work : List ℕ) : Type 0 where
  pub lent : state_size * n ≤ length states
  pub some_combination : 0 < all
  pub fits : 8 * (n * all) ≤ length work

-- an initial weight and the weight from there on
abbrev pub beginning : Weight → ℕ → ℕ
beginning None x = far
beginning (Some w) x = w + x

-- of state q
unfoldable pub from_state : List ℕ → ℕ → List ℕ → ℕ → ℕ
from_state states all xs q = beginning (state_at (state_size * q) states).initial (get_or xs (q * all + 0) 0)

-- the least of the first n states
unfoldable pub least_up_to : ℕ → List ℕ → ℕ → List ℕ → ℕ
least_up_to zero states all xs = far
least_up_to (suc n) states all xs = min (least_up_to n states all xs) (from_state states all xs n)
