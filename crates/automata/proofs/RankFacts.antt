-- The place of a marked element among those that are kept is the number of marked places before it.
use mathlib.Core.Path.{◌≡◌, refl, ◌∙◌, ap}
use mathlib.Core.Logic.{inl, inr}
use mathlib.Core.Bool.{Bool, true, false}
use mathlib.Core.Option.{some}
use mathlib.Core.List.{List, [], ◌∷◌}
use Prim.Native.Nat.{ℕ, zero, suc, ◌+◌, ◌-◌, ◌≤◌, ◌<◌}
use native.Mathlib.Omega.{arith}
use lib.Dec.{ltb}
use lib.ListN.{length, get_or, get_elem?, get_or-eq_default}
use Rattle.automata.specs.Lists.{if}
use Rattle.automata.specs.Trim.{at_marks, rank}
use Rattle.automata.proofs.ListFacts
use Rattle.automata.proofs.TestFacts

-- ---- the number of marked places before a place

-- before the first place there is none
pub rank_zero : (marks : List Bool) → rank marks zero ≡ zero
unfolding rank
rank_zero [] = refl
rank_zero (b ∷ bs) = refl

-- one place more (beyond the marks none is marked)
pub rank_suc : (marks : List Bool) (i : ℕ) → rank marks (suc i) ≡ if (get_or marks i false) (suc (rank marks i)) (rank marks i)
unfolding rank
rank_suc [] i = refl
rank_suc (b ∷ bs) zero = rw (rank_zero bs)
rank_suc (b ∷ bs) (suc i) = rw (rank_suc bs i) (go b (get_or bs i false))
  where
    go : (b c : Bool) → if b (suc (if c (suc (rank bs i)) (rank bs i))) (if c (suc (rank bs i)) (rank bs i))
        ≡ if c (suc (if b (suc (rank bs i)) (rank bs i))) (if b (suc (rank bs i)) (rank bs i))
    go true true = refl
    go true false = refl
    go false true = refl
    go false false = refl

-- one place more that is marked
pub rank-marked : (marks : List Bool) (i : ℕ) → get_or marks i false ≡ true → rank marks (suc i) ≡ suc (rank marks i)
rank-marked marks i e = rank_suc marks i ∙ (rw e)

-- one place more that is not marked
pub rank_unmarked : (marks : List Bool) (i : ℕ) → get_or marks i false ≡ false → rank marks (suc i) ≡ rank marks i
rank_unmarked marks i e = rank_suc marks i ∙ (rw e)

-- no more than there are places
pub rank-le : (marks : List Bool) (i : ℕ) → rank marks i ≤ i
rank-le marks zero = let z = rank_zero marks in omega arith
rank-le marks (suc i) = go (get_or marks i false) (rank_suc marks i) (rank-le marks i)
  where
    go : (b : Bool) → rank marks (suc i) ≡ if b (suc (rank marks i)) (rank marks i) → rank marks i ≤ i → rank marks (suc i) ≤ suc i
    go true e h = omega arith
    go false e h = omega arith

-- no fewer before a place that is m places later
rank_grows : (marks : List Bool) (m i j : ℕ) → i + m ≡ j → rank marks i ≤ rank marks j
rank_grows marks zero i j e = let z : i ≡ j = omega arith in rw z (omega arith)
rank_grows marks (suc m) i j e = go (get_or marks i false) (rank_suc marks i) (rank_grows marks m (suc i) j (omega arith))
  where
    go : (b : Bool) → rank marks (suc i) ≡ if b (suc (rank marks i)) (rank marks i) → rank marks (suc i) ≤ rank marks j → rank marks i ≤ rank marks j
    go true e h = omega arith
    go false e h = omega arith

-- no fewer before a later place
pub rank_monotone : (marks : List Bool) (i j : ℕ) → i ≤ j → rank marks i ≤ rank marks j
rank_monotone marks i j h = rank_grows marks (j - i) i j (omega arith)

-- a marked place comes before as many as there are in all
pub rank_below : (marks : List Bool) (i : ℕ) → get_or marks i false ≡ true → rank marks i < rank marks (length marks)
rank_below marks i e = elim (TestFacts.decide (ltb i (length marks))) [
  | inl t ↦
      (let l : i < length marks = TestFacts.ltb_true t in
      let s = rank-marked marks i e in
      let m : rank marks (suc i) ≤ rank marks (length marks) = rank_monotone marks (suc i) (length marks) (omega arith) in
      omega arith)
  | inr t ↦ TestFacts.false_not_true (get_or-eq_default marks false (TestFacts.ltb_false t)) e
]

-- ---- the elements at the marked places

module _ {C : Type 0} where
  -- of no elements
  pub at_marks_nil : (bs : List Bool) → ◌≡◌ {A = List C} (at_marks bs []) []
  at_marks_nil [] = refl
  at_marks_nil (b ∷ bs) = refl

  -- how many they are
  pub length_at_marks : (marks : List Bool) (cs : List C) → length (at_marks marks cs) ≡ rank marks (length cs)
  unfolding rank
  length_at_marks [] cs = refl
  length_at_marks (b ∷ bs) [] = refl
  length_at_marks (b ∷ bs) (c ∷ cs) = go b (length_at_marks bs cs)
    where
      go : (b : Bool) → length (at_marks bs cs) ≡ rank bs (length cs)
          → length (if b (c ∷ at_marks bs cs) (at_marks bs cs)) ≡ if b (suc (rank bs (length cs))) (rank bs (length cs))
      go true e = ap suc e
      go false e = e

  -- a marked element stands at its number among those kept
  pub at_marks-place : (marks : List Bool) (cs : List C) (i : ℕ) (c : C) → get_elem? cs i ≡ some c → get_or marks i false ≡ true
      → get_elem? (at_marks marks cs) (rank marks i) ≡ some c
  unfolding rank
  at_marks-place [] cs i c p q = TestFacts.false_not_true refl q
  at_marks-place (b ∷ bs) [] i c p q = ListFacts.none_not_some refl p
  at_marks-place (b ∷ bs) (x ∷ cs) zero c p q = rw q p
  at_marks-place (b ∷ bs) (x ∷ cs) (suc i) c p q = go b (at_marks-place bs cs i c p q)
    where
      go : (b : Bool) → get_elem? (at_marks bs cs) (rank bs i) ≡ some c
          → get_elem? (if b (x ∷ at_marks bs cs) (at_marks bs cs)) (if b (suc (rank bs i)) (rank bs i)) ≡ some c
      go true e = e
      go false e = e
