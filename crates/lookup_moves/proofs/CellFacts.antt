-- What loading and storing does to the cells.
use mathlib.Core.Path.{◌≡◌, refl, sym, ap, subst, ◌∙◌}
use mathlib.Core.Bool.{true, false, false≢true}
use mathlib.Core.List.{List, [], ◌∷◌, map}
use Prim.Native.Nat.{ℕ, zero, suc, ◌+◌, ◌*◌, ◌/◌, ◌≤◌, ◌<◌, min}
use native.Mathlib.Omega.{arith}
use lib.ListN.{length, get_or, set, length-map, get_or-map}
use lib.Seq.{set-get_or}
use Rattle.table.specs.Region.{part, splice, rows}
use Rattle.table.specs.Endian.{le, to_le}
use Rattle.table.proofs.EndianFacts.{length_to_le, le-to_le}
use Rattle.table.proofs.SpliceFacts.{length_splice}
use Rattle.table.proofs.RowFacts.{length_rows, get_d_rows, rows-splice_row}
use Rattle.lookup_moves.specs.Distances.{cells_of, lowered, sum, Lowers}

-- a cell for each eight bytes
pub length_cells : (w : List ℕ) → length (cells_of w) ≡ length w / 8
unfolding cells_of
length_cells w = length-map (rows 0 8 (length w / 8) w) le ∙ length_rows 0 8 (length w / 8) w

pub cells_get : (w : List ℕ) (k : ℕ) → 8 * k + 8 ≤ length w → le (part (8 * k) 8 w) ≡ get_or (cells_of w) k 0
unfolding cells_of
cells_get w k h =
    let e : 8 * k ≡ 0 + k * 8 = omega arith in
    ap (λ (i : ℕ). le (part i 8 w)) e ∙ ap le (sym (get_d_rows 0 8 (length w / 8) w k [] (omega arith)))
    ∙ sym (get_or-map le (rows 0 8 (length w / 8) w) k [])

map_set : (f : List ℕ → ℕ) (xs : List (List ℕ)) (k : ℕ) (r : List ℕ) → map f (set xs k r) ≡ set (map f xs) k (f r)
map_set f [] k r = refl
map_set f (x ∷ xs) zero r = refl
map_set f (x ∷ xs) (suc k) r = ap (◌∷◌ (f x)) (map_set f xs k r)

pub cells_put : (w u : List ℕ) (k v : ℕ) → 8 * k + 8 ≤ length w → v < 18446744073709551616 → u ≡ splice (8 * k) (to_le 8 v) w → cells_of u ≡ set (cells_of w) k v
unfolding cells_of
cells_put w u k v h small e =
    let c : 8 * k ≡ 0 + k * 8 = omega arith in
    let f : u ≡ splice (0 + k * 8) (to_le 8 v) w = e ∙ ap (λ (i : ℕ). splice i (to_le 8 v) w) c in
    let l : length u ≡ length w = ap length e ∙ length_splice (8 * k) (to_le 8 v) w (omega (arith, length_to_le 8 v)) in
    let n = length w / 8 in
    ap (λ (m : ℕ). map le (rows 0 8 (m / 8) u)) l ∙ ap (λ (z : List ℕ). map le (rows 0 8 n z)) f
    ∙ ap (map le) (rows-splice_row 0 8 n k (to_le 8 v) w (omega arith) (length_to_le 8 v) (omega arith))
    ∙ map_set le (rows 0 8 n w) k (to_le 8 v) ∙ ap (λ (x : ℕ). set (map le (rows 0 8 n w)) k x) (le-to_le 8 v small)

-- ---- a weight that is found

-- the sum after a store
pub sum_set : (xs : List ℕ) (k v : ℕ) → k < length xs → sum (set xs k v) + get_or xs k 0 ≡ sum xs + v
sum_set [] k v h = absurd (omega arith)
sum_set (x ∷ xs) zero v h = omega arith
sum_set (x ∷ xs) (suc k) v h = let i = sum_set xs k v (omega arith) in omega (arith, i)

module _ (w : List ℕ) (k v x : ℕ) (fits : 8 * k + 8 ≤ length w) (e : x ≡ get_or (cells_of w) k 0) where
  pub lowers_stored : (u : List ℕ) → v < x → v < 18446744073709551616 → u ≡ splice (8 * k) (to_le 8 v) w → Lowers k v true u w
  unfolding lowered
  lowers_stored u lt small s =
      let f : cells_of u ≡ set (cells_of w) k v = cells_put w u k v fits small s in
      let g : v ≡ min (get_or (cells_of w) k 0) v = omega (arith, e) in
      let i : k < length (cells_of w) = omega (arith, length_cells w) in
      record {
        cells_are = f ∙ ap (λ (y : ℕ). set (cells_of w) k y) g;
        trend = record {
          still = λ c. absurd (false≢true (sym c));
          less = λ c. subst (λ (ys : List ℕ). sum ys < sum (cells_of w)) (sym f) (omega (arith, e, sum_set (cells_of w) k v i));
        };
        same_length = ap length s ∙ length_splice (8 * k) (to_le 8 v) w (omega (arith, length_to_le 8 v));
      }

  pub lowers_kept : x ≤ v → Lowers k v false w w
  unfolding lowered
  lowers_kept le =
      let g : get_or (cells_of w) k 0 ≡ min (get_or (cells_of w) k 0) v = omega (arith, e) in record {
        cells_are = sym (set-get_or (cells_of w) k 0) ∙ ap (λ (y : ℕ). set (cells_of w) k y) g;
        trend = record { still = λ c. refl; less = λ c. absurd (false≢true c) };
        same_length = refl;
      }
