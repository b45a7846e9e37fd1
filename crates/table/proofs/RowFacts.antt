-- Facts of `rows`: a run of records of one size as a list, and what a store to one of them does.
use Prim.Native.Nat.{ℕ, zero, suc, ◌+◌, ◌*◌, ◌≤◌, ◌<◌}
use mathlib.Core.Path.{◌≡◌, refl, sym, ap, ap₂, ◌∙◌}
use mathlib.Core.List.{List, ◌∷◌}
use native.Mathlib.Omega.{arith}
use native.Mathlib.Nat.{add-zero, zero-mul, suc-mul, mul-le-mul_right}
use lib.ListN.{length, get_or, set}
use Rattle.table.specs.Region.{part, splice, rows}
use Rattle.table.proofs.RegionFacts.{part-splice_same, part-splice_before, part-splice_after}

-- the place of a row is before the end of the rows
pub mul_step : (k n size : ℕ) → k < n → k * size + size ≤ n * size
mul_step k n size h = rw (← suc-mul k size) (mul-le-mul_right size h)

module _ {A : Type 0} where
  -- there are n rows
  pub length_rows : (a size n : ℕ) (xs : List A) → length (rows a size n xs) ≡ n
  unfolding rows
  length_rows a size zero xs = refl
  length_rows a size (suc n) xs = ap suc (length_rows (a + size) size n xs)

  -- the row with the number k
  pub get_d_rows : (a size n : ℕ) (xs : List A) (k : ℕ) (d : List A) → k < n → get_or (rows a size n xs) k d ≡ part (a + k * size) size xs
  unfolding rows
  get_d_rows a size zero xs k d h = absurd (omega arith)
  get_d_rows a size (suc n) xs zero d h = rw (zero-mul, add-zero)
  get_d_rows a size (suc n) xs (suc k) d h =
      let e : a + size + k * size ≡ a + suc k * size = rw suc-mul (omega arith) in
      get_d_rows (a + size) size n xs k d (omega arith) ∙ ap (λ (m : ℕ). part m size xs) e

  -- rows behind a region that was written
  pub rows-splice_before : (a size n b : ℕ) (ys xs : List A) → b + length ys ≤ a → b + length ys ≤ length xs → rows a size n (splice b ys xs) ≡ rows a size n xs
  unfolding rows
  rows-splice_before a size zero b ys xs h k = refl
  rows-splice_before a size (suc n) b ys xs h k =
      ap₂ (λ (r : List A) (rs : List (List A)). r ∷ rs) (part-splice_after a size b ys xs h k) (rows-splice_before (a + size) size n b ys xs (omega arith) k)

  -- a row written anew
  pub rows-splice_row : (a size n k : ℕ) (r xs : List A) → k < n → length r ≡ size → a + n * size ≤ length xs → rows a size n (splice (a + k * size) r xs) ≡ set (rows a size n xs) k r
  unfolding rows
  rows-splice_row a size zero k r xs h e l = absurd (omega arith)
  rows-splice_row a size (suc n) zero r xs h e l =
      let m : suc n * size ≡ n * size + size = suc-mul n size in
      let f : a + length r ≤ length xs = omega arith in
      rw (zero-mul, add-zero)
      (ap₂ (λ (y : List A) (ys : List (List A)). y ∷ ys)
      (ap (λ (j : ℕ). part a j (splice a r xs)) (sym e) ∙ part-splice_same a r xs f)
      (rows-splice_before (a + size) size n a r xs (omega arith) f))
  rows-splice_row a size (suc n) (suc k) r xs h e l =
      let m : suc n * size ≡ n * size + size = suc-mul n size in
      let j : suc k * size ≡ k * size + size = suc-mul k size in
      let p : a + suc k * size ≡ a + size + k * size = omega arith in
      let q : k * size + size ≤ n * size = mul_step k n size (omega arith) in
      ap₂ (λ (y : List A) (ys : List (List A)). y ∷ ys)
      (part-splice_before a size (a + suc k * size) r xs (omega arith) (omega arith))
      (ap (λ (i : ℕ). rows (a + size) size n (splice i r xs)) p ∙ rows-splice_row (a + size) size n k r xs (omega arith) e (omega arith))
