-- The fold over the bytes of a record, one word after the other.
use Prim.Native.Nat.{ℕ, zero, suc, ◌+◌, ◌-◌, ◌<◌}
use mathlib.Core.Path.{◌≡◌, refl, ap, ◌∙◌}
use mathlib.Core.List.{List}
use native.Mathlib.Omega.{arith}
use Rattle.table.specs.Region.{part}
use Rattle.table.specs.Endian.{le}
use Rattle.search_chains.specs.Hash.{mixed, hash_from}

-- one word more
pub hash_step : (n at h x : ℕ) (bs : List ℕ) → 0 < n → x ≡ le (part at 8 bs) → hash_from (n - 1) (at + 8) (mixed h x) bs ≡ hash_from n at h bs
unfolding hash_from
hash_step zero at h x bs l e = absurd (omega arith)
hash_step (suc n) at h x bs l e =
    let z : suc n - 1 ≡ n = omega arith in
    ap (λ (k : ℕ). hash_from k (at + 8) (mixed h x) bs) z ∙ ap (λ (y : ℕ). hash_from n (at + 8) (mixed h y) bs) e

-- after the last
pub hash_end : (n at h : ℕ) (bs : List ℕ) → n ≡ 0 → h ≡ hash_from n at h bs
unfolding hash_from
hash_end zero at h bs e = refl
hash_end (suc n) at h bs e = absurd (omega arith)
