-- The first element of a list, and the least number, that passes a test.
use mathlib.Core.Path.{◌≡◌, refl}
use mathlib.Core.Logic.{◌⊎◌, inl, inr}
use mathlib.Core.Bool.{Bool, true, false}
use mathlib.Core.Option.{none, some}
use mathlib.Core.List.{List, [], ◌∷◌}
use Prim.Native.Nat.{ℕ, zero, suc, ◌+◌, ◌≤◌, ◌<◌}
use native.Mathlib.Omega.{arith}
use native.Mathlib.Decide.{ℕ_discrete}
use lib.Dec.{T}
use lib.ListN.{get_elem?}
use Rattle.automata.specs.First.{find_first, first_below}
use Rattle.automata.proofs.ListFacts.{none_not_some}

module _ {E : Type 0} (p : E → Bool) where
  -- the first element that passes stands at place i
  pub record Found (k : ℕ) (xs : List E) : Type 0 where
    pub place : ℕ
    pub element : E
    pub found : find_first p k xs ≡ some (k + place, element)
    pub stands : get_elem? xs place ≡ some element
    pub passes : T (p element)
    pub lowest : (j : ℕ) (y : E) → get_elem? xs j ≡ some y → T (p y) → place ≤ j

  -- where some element passes, the first one is found
  pub find_first_finds : (k : ℕ) (xs : List E) (j : ℕ) (y : E) → get_elem? xs j ≡ some y → T (p y) → Found k xs
  find_first_finds k [] j y at t = none_not_some refl at
  find_first_finds k (x ∷ xs) j y at t = go (p x) refl j at (λ j at. find_first_finds (suc k) xs j y at t)
    where
      go : (b : Bool) → p x ≡ b → (j : ℕ) → get_elem? (x ∷ xs) j ≡ some y → ((j : ℕ) → get_elem? xs j ≡ some y → Found (suc k) xs) → Found k (x ∷ xs)
      go true e j at ih = record {
        place = zero;
        element = x;
        found = let s : k + zero ≡ k = omega arith in rw (e, s) refl;
        stands = refl;
        passes = rw e tt;
        lowest = λ j y at t. omega arith;
      }
      go false e zero at ih = let s : x ≡ y = cc in absurd (rw (← s, e) at t)
      go false e (suc j) at ih =
          let f = ih j at in record {
            place = suc f.place;
            element = f.element;
            found = let s : k + suc f.place ≡ suc k + f.place = omega arith in rw (e, s) f.found;
            stands = f.stands;
            passes = f.passes;
            lowest = lower f;
          }
        where
          lower : (f : Found (suc k) xs) (j : ℕ) (y : E) → get_elem? (x ∷ xs) j ≡ some y → T (p y) → suc f.place ≤ j
          lower f zero y at t = let s : x ≡ y = cc in absurd (rw (← s, e) at t)
          lower f (suc j) y at t = let l = f.lowest j y at t in omega arith

-- i is the least number below n that passes
pub record Lowest (p : ℕ → Bool) (n i : ℕ) : Type 0 where
  pub found : first_below p n ≡ some i
  pub below : i < n
  pub passes : T (p i)
  pub lowest : (j : ℕ) → j < n → T (p j) → i ≤ j

first_below-cases : (p : ℕ → Bool) (n : ℕ) → ((i : ℕ) × Lowest p n i) ⊎ ((first_below p n ≡ none) × ((j : ℕ) → j < n → T (p j) → ⊥))
first_below-cases p zero = inr (refl, λ j lt t. absurd (omega arith))
first_below-cases p (suc n) = go (first_below-cases p n) (p n) refl
  where
    go : ((i : ℕ) × Lowest p n i) ⊎ ((first_below p n ≡ none) × ((j : ℕ) → j < n → T (p j) → ⊥)) → (b : Bool) → p n ≡ b
        → ((i : ℕ) × Lowest p (suc n) i) ⊎ ((first_below p (suc n) ≡ none) × ((j : ℕ) → j < suc n → T (p j) → ⊥))
    go (inl (i, l)) b e = inl (
      i,
      record {
        found = rw l.found refl;
        below = omega (arith, l.below);
        passes = l.passes;
        lowest = λ j lt t. least j lt t (ℕ_discrete j n);
      },
    )
      where
        least : (j : ℕ) → j < suc n → T (p j) → Dec (j ≡ n) → i ≤ j
        least j lt t (yes q) = omega (arith, l.below)
        least j lt t (no ne) = l.lowest j (omega arith) t
    go (inr (e, never)) true f = inl (
      n,
      record {
        found = rw (e, f) refl;
        below = omega arith;
        passes = rw f tt;
        lowest = λ j lt t. least j lt t (ℕ_discrete j n);
      },
    )
      where
        least : (j : ℕ) → j < suc n → T (p j) → Dec (j ≡ n) → n ≤ j
        least j lt t (yes q) = omega arith
        least j lt t (no ne) = absurd (never j (omega arith) t)
    go (inr (e, never)) false f = inr (rw (e, f) refl, λ j lt t. none_left j lt t (ℕ_discrete j n))
      where
        none_left : (j : ℕ) → j < suc n → T (p j) → Dec (j ≡ n) → ⊥
        none_left j lt t (yes q) = rw (q, f) at t
        none_left j lt t (no ne) = never j (omega arith) t

-- where some number passes, the least one is found
pub first_below_finds : (p : ℕ → Bool) (n j : ℕ) → j < n → T (p j) → (i : ℕ) × Lowest p n i
first_below_finds p n j lt t = go (first_below-cases p n)
  where
    go : ((i : ℕ) × Lowest p n i) ⊎ ((first_below p n ≡ none) × ((j : ℕ) → j < n → T (p j) → ⊥)) → (i : ℕ) × Lowest p n i
    go (inl r) = r
    go (inr (e, never)) = absurd (never j lt t)
