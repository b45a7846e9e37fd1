-- The cells of a lookup in work space: a number of eight bytes each, the least weight found so far from a state and
-- positions on.
use Rattle.std.specs.Prelude.{◌≡◌, Bool, true, false, List, map, ℕ, ◌/◌, ◌<◌, min, ltb, length, get_or, set}
use Rattle.std.proofs.Math.Option.{Option, none, some}
use Rattle.automata.specs.Lists.{if, total}
use Rattle.table.specs.Region.{rows}
use Rattle.table.specs.Endian.{le}

-- The number for "none": eight bytes of 16. It is above every weight, and a weight added to it is still a number of 64
-- bits.
abbrev pub far : ℕ
far = 1157442765409226768

-- each of its bytes
abbrev pub far_byte : ℕ
far_byte = 16

-- the weight that a number stands for
abbrev pub weight_of : ℕ → Option ℕ
weight_of x = if (ltb x far) (some x) none

-- all cells of the work space
unfoldable pub cells_of : List ℕ → List ℕ
cells_of w = map le (rows 0 8 (length w / 8) w)

-- the cells after the weight v was found for cell k
unfoldable pub lowered : ℕ → ℕ → List ℕ → List ℕ
lowered k v xs = set xs k (min (get_or xs k 0) v)

-- the weights in all cells, added up
abbrev pub sum : List ℕ → ℕ
sum xs = total (λ x. x) xs

-- the cells went from xs to ys: changed tells whether some weight became less, and no other did
pub record Trend (changed : Bool) (ys xs : List ℕ) : Type 0 where
  pub still : changed ≡ false → ys ≡ xs
  pub less : changed ≡ true → sum ys < sum xs

-- the weight v was found for cell k, and the work space went from w to u; changed tells whether it is less than the one
-- there
pub record Lowers (k v : ℕ) (changed : Bool) (u w : List ℕ) : Type 0 where
  pub cells_are : cells_of u ≡ lowered k v (cells_of w)
  pub trend : Trend changed (cells_of u) (cells_of w)
  pub same_length : length u ≡ length w
