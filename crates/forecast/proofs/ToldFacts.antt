-- The number that is told, as it is computed.
use Prim.Native.Nat.{ℕ, ◌+◌, ◌*◌, ◌≤◌, ◌<◌}
use mathlib.Core.Path.{◌≡◌}
use native.Mathlib.Omega.{arith}
use borrow.Author.Tests.{lt-ltb, le-ltb}
use Rattle.automata.specs.Forecast.{number, over, needs, capped_sum, told_capped}

-- above 65,535 it is over, else it is told
pub told_over_lem : (n s D r k : ℕ) → r ≡ capped_sum 65536 s D → k ≡ n * (1 + 2 * r) → (k < 65536 → ⊥) → needs D over ≡ needs D (told_capped n s D)
unfolding told_capped
told_over_lem n s D r k e f h = let l : 65535 < k = omega (arith, h) in rw (← e, ← f, lt-ltb 65535 k l)

pub told-number : (n s D r k x : ℕ) → r ≡ capped_sum 65536 s D → k ≡ n * (1 + 2 * r) → k < 65536 → x ≡ k → needs D (number x) ≡ needs D (told_capped n s D)
unfolding told_capped
told-number n s D r k x e f h g = let l : k ≤ 65535 = omega arith in rw (g, ← e, ← f, le-ltb 65535 k l)
