-- What writing into one row leaves of the others, and of the rest of the same row.
use Prim.Native.Nat.{ℕ, ◌+◌, ◌*◌, ◌≤◌, ◌<◌}
use mathlib.Core.Path.{◌≡◌, ap}
use mathlib.Core.List.{List}
use native.Mathlib.Decide.{dec_lt, ℕ_discrete}
use native.Mathlib.Omega.{arith}
use lib.ListN.{length}
use Rattle.table.specs.Region.{part, splice}
use Rattle.table.proofs.RegionFacts.{part-splice_before, part-splice_after}
use Rattle.table.proofs.RowFacts.{mul_step}

module _ (stride j o n k p : ℕ) (ys xs : List ℕ) (read : o + n ≤ stride) (written : p + length ys ≤ stride) (within : k * stride + p + length ys ≤ length xs) where
  -- bytes of another row
  pub row_kept : (j ≡ k → ⊥) → part (j * stride + o) n (splice (k * stride + p) ys xs) ≡ part (j * stride + o) n xs
  row_kept d = go (dec_lt j k)
    where
      go : Dec (j < k) → part (j * stride + o) n (splice (k * stride + p) ys xs) ≡ part (j * stride + o) n xs
      go (yes l) = let m = mul_step j k stride l in part-splice_before (j * stride + o) n (k * stride + p) ys xs (omega (arith, m)) (omega arith)
      go (no f) = let l : k < j = omega arith in let m = mul_step k j stride l in part-splice_after (j * stride + o) n (k * stride + p) ys xs (omega (arith, m)) (omega arith)

  -- bytes before those written in a row, in whichever row
  pub front_kept : o + n ≤ p → part (j * stride + o) n (splice (k * stride + p) ys xs) ≡ part (j * stride + o) n xs
  front_kept h = go (ℕ_discrete j k)
    where
      go : Dec (j ≡ k) → part (j * stride + o) n (splice (k * stride + p) ys xs) ≡ part (j * stride + o) n xs
      go (yes e) = let m : j * stride ≡ k * stride = ap (λ (i : ℕ). i * stride) e in part-splice_before (j * stride + o) n (k * stride + p) ys xs (omega (arith, m)) (omega arith)
      go (no d) = row_kept d

  -- bytes behind them
  pub back_kept : p + length ys ≤ o → part (j * stride + o) n (splice (k * stride + p) ys xs) ≡ part (j * stride + o) n xs
  back_kept h = go (ℕ_discrete j k)
    where
      go : Dec (j ≡ k) → part (j * stride + o) n (splice (k * stride + p) ys xs) ≡ part (j * stride + o) n xs
      go (yes e) = let m : j * stride ≡ k * stride = ap (λ (i : ℕ). i * stride) e in part-splice_after (j * stride + o) n (k * stride + p) ys xs (omega (arith, m)) (omega arith)
      go (no d) = row_kept d
