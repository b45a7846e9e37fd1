-- What loads and stores of leftovers leave, over plain lists.
use Prim.Native.Nat.{ℕ, ◌+◌, ◌-◌, ◌≤◌}
use mathlib.Core.Path.{◌≡◌, refl, ap, ◌∙◌}
use mathlib.Core.Bool.{Bool, true, false}
use mir.Val.{bool_byte}
use mathlib.Core.List.{List, [], ◌∷◌}
use native.Mathlib.Omega.{arith}
use lib.Dec.{eqb}
use lib.ListN.{length, get_or, set, take, drop, replicate}
use Rattle.table.proofs.RecordFacts.{array_of}
use Rattle.table.specs.Region.{splice}
use Rattle.table.proofs.RegionFacts.{two_stores, splice-behind}
use Rattle.intersect_config.specs.declared.leftover.Leftover.{Leftover}
use Rattle.intersect_config.specs.Leftovers.{flag, leftover_bytes, leftover_at, leftover_room, leftover_size}

-- ---- a leftover
pub leftover_loaded : (at : ℕ) (xs y : List ℕ) → at + leftover_size ≤ length xs → y ≡ splice 0 (take (at + leftover_size - (at + 2)) (drop (at + 2) xs)) (replicate leftover_room 0)
    → ◌≡◌ {A = Leftover} (record { second = eqb (get_or xs at 0) 1; len = get_or xs (at + 1) 0; symbols = y }) (leftover_at at xs)
unfolding leftover_at
leftover_loaded at xs y h e =
    let n : at + leftover_size - (at + 2) ≡ at + 2 + leftover_room - (at + 2) = omega arith in
    rw (array_of (at + 2) leftover_room xs y (omega arith) (rw n at e))

-- a side as a byte
pub flag_byte : (b : Bool) → bool_byte b ≡ flag b
flag_byte true = refl
flag_byte false = refl

pub leftover_stored : (at : ℕ) (l : Leftover) (b : ℕ) (w w2 : List ℕ) → at + leftover_size ≤ length w → length l.symbols ≡ leftover_room → b ≡ flag l.second
    → w2 ≡ splice (at + 2) l.symbols (set (set w at b) (at + 1) l.len) → (w2 ≡ splice at (leftover_bytes l) w) × (length (leftover_bytes l) ≡ leftover_size)
unfolding leftover_bytes
leftover_stored at l b w w2 h s f e = (
  splice-behind at (at + 2) (flag l.second ∷ l.len ∷ []) l.symbols w (set (set w at b) (at + 1) l.len) w2
      (ap (λ (v : ℕ). set (set w at v) (at + 1) l.len) f ∙ two_stores at (flag l.second) l.len w (omega arith)) e refl (omega arith),
  omega arith,
)
