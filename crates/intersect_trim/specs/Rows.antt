-- A configuration as a row of the work space: its input state, and four leftovers (side, length, symbols).
use Rattle.std.specs.Prelude.{ℕ, zero, suc, ◌+◌, ◌*◌, ◌≤◌, ◌<◌, ◌≡◌, Bool, true, List, [], ◌∷◌, eqb, length, get_or}
use Rattle.std.proofs.Math.Option.{some}
use Rattle.std.proofs.Math.ListN.{get_elem?}
use Rattle.automata.specs.Lists.{and, All}
use Rattle.automata.specs.Leftover.{Leftover, nothing, same_leftover}
use Rattle.automata.specs.Config.{Config}
use Rattle.automata.specs.Layout.{state_size, final_place}
use Rattle.intersect_config.specs.Leftovers.{leftover_size}
use Rattle.table.specs.Region.{part}
use Rattle.table.specs.Endian.{le, to_le}
use Rattle.intersect_edges.specs.Marked.{bit, is_mark}

-- the input state of a row
unfoldable pub row_state : List ℕ → ℕ
row_state row = le (part 0 2 row)

-- the length bytes of n leftovers from the h-th on are 0
abbrev pub plain_from : ℕ → ℕ → List ℕ → Bool
plain_from h zero row = true
plain_from h (suc n) row = let r = plain_from (suc h) n row in and (eqb (get_or row (3 + leftover_size * h) 0) 0) r

-- the row has no leftover
unfoldable pub row_plain : List ℕ → Bool
row_plain row = plain_from 0 4 row

-- the mark of a row, by the records of the input states: no leftover, and the flag of the final weight is 1
unfoldable pub final_byte : List ℕ → List ℕ → ℕ
final_byte states row = bit (and (row_plain row) (is_mark (get_or states (state_size * row_state row + final_place) 0)))

-- the records of the rows' input states stand within n bytes
unfoldable pub Within : ℕ → List (List ℕ) → Type 0
Within n rs = All (λ row. state_size * row_state row + state_size ≤ n) rs

-- the row holds the configuration
pub record RowOf (c : Config) (row : List ℕ) : Type 0 where
  pub state : part 0 2 row ≡ to_le 2 c.state
  pub few : length c.leftovers ≤ 4
  pub used : (h : ℕ) (l : Leftover) → get_elem? c.leftovers h ≡ some l → eqb (get_or row (3 + leftover_size * h) 0) 0 ≡ same_leftover l nothing
  pub unused : (h : ℕ) → h < 4 → length c.leftovers ≤ h → get_or row (3 + leftover_size * h) 0 ≡ 0

-- the rows hold the configurations in turn, whose states are below n
abbrev pub RowsOf : ℕ → List Config → List (List ℕ) → Type 0
RowsOf n [] [] = Unit {0}
RowsOf n [] (r ∷ rs) = ⊥
RowsOf n (c ∷ cs) [] = ⊥
RowsOf n (c ∷ cs) (r ∷ rs) = (RowOf c r × (c.state < n)) × RowsOf n cs rs
