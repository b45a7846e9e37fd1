-- Facts about lists that the laws of leftovers and configurations share.
use Prim.Native.Nat.{ℕ, zero, suc, ◌-◌}
use mathlib.Core.Path.{◌≡◌, refl}
use mathlib.Core.List.{List, [], ◌∷◌}
use native.Mathlib.Omega.{arith}
use native.Mathlib.Nat.{sub-zero, zero-sub, suc-sub-suc}
use lib.ListN.{length, get_or, set, take, drop, replicate}
use Rattle.automata.specs.Lists.{All}

module _ {A : Type 0} where
  pub drop_replicate : (n k : ℕ) (a : A) → drop k (replicate n a) ≡ replicate (n - k) a
  drop_replicate n zero a = rw sub-zero
  drop_replicate zero (suc k) a = rw zero-sub
  drop_replicate (suc n) (suc k) a = rw (suc-sub-suc n k) (drop_replicate n k a)

  -- a list of four, element by element
  pub four_elements : (d : A) (xs : List A) → length xs ≡ 4 → xs ≡ get_or xs 0 d ∷ get_or xs 1 d ∷ get_or xs 2 d ∷ get_or xs 3 d ∷ []
  four_elements d [] e = absurd (omega arith)
  four_elements d (a ∷ []) e = absurd (omega arith)
  four_elements d (a ∷ b ∷ []) e = absurd (omega arith)
  four_elements d (a ∷ b ∷ c ∷ []) e = absurd (omega arith)
  four_elements d (a ∷ b ∷ c ∷ f ∷ []) e = refl
  four_elements d (a ∷ b ∷ c ∷ f ∷ g ∷ xs) e = absurd (omega arith)

  -- what holds of every element holds of the first ones, and after one is replaced
  pub All_take : (P : A → Type 0) (n : ℕ) (xs : List A) → All P xs → All P (take n xs)
  All_take P zero xs p = tt
  All_take P (suc n) [] p = tt
  All_take P (suc n) (x ∷ xs) p = (p.0, All_take P n xs p.1)

  pub All_set : (P : A → Type 0) (xs : List A) (i : ℕ) (x : A) → All P xs → P x → All P (set xs i x)
  All_set P [] i x g p = tt
  All_set P (y ∷ ys) zero x g p = (p, g.1)
  All_set P (y ∷ ys) (suc i) x g p = (g.0, All_set P ys i x g.1 p)
