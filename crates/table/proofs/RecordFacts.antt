-- What loading and storing a record leaves, over plain lists.
use mathlib.Core.Path.{◌≡◌, refl, ap, ◌∙◌}
use mathlib.Core.List.{List, [], ◌∷◌, ◌++◌, append-nil}
use Prim.Native.Nat.{ℕ, zero, suc, ◌+◌, ◌-◌, ◌≤◌}
use native.Mathlib.Omega.{arith}
use lib.ListN.{length, set, get_or, take, drop, replicate, length-take, length-drop, length-replicate, drop_of_length-le}
use Rattle.automata.specs.Layout.{state_size, weight_size}
use Rattle.table.specs.Region.{part, splice}
use Rattle.table.specs.Endian.{le, to_le}
use Rattle.table.specs.Records.{weight_of, weight_at, state_at, weight_bytes, state_bytes}
use Rattle.table.specs.Records.{Weight}
use Rattle.std.specs.Prelude.{Some, None}
use Rattle.table.specs.declared.record.State.{State}
use Rattle.table.proofs.RegionFacts.{one_store, splice-behind}

-- ---- storing

-- a flag, and a number behind it
pub flagged_stored : (a f v : ℕ) (xs us : List ℕ) → a + weight_size ≤ length xs → us ≡ splice (a + 1) (to_le 4 v) (set xs a f) → us ≡ splice a (f ∷ to_le 4 v) xs
flagged_stored a f v xs us h e = splice-behind a (a + 1) (f ∷ []) (to_le 4 v) xs (set xs a f) us (one_store a f xs (omega arith)) e refl (omega arith)

-- a weight that is absent
pub stored_absent : (a : ℕ) (w : Weight) (xs us : List ℕ) → w ≡ None → us ≡ splice a (0 ∷ to_le 4 0) xs → us ≡ splice a (weight_bytes w) xs
unfolding weight_bytes
stored_absent a w xs us e f = f ∙ rw e

-- a weight that is there
pub stored_present : (a n : ℕ) (w : Weight) (xs us : List ℕ) → w ≡ Some n → us ≡ splice a (1 ∷ to_le 4 n) xs → us ≡ splice a (weight_bytes w) xs
unfolding weight_bytes
stored_present a n w xs us e f = f ∙ rw e

-- a weight takes up five bytes
pub length_weight : (w : Weight) → length (weight_bytes w) ≡ weight_size
unfolding weight_bytes
length_weight None = refl
length_weight (Some n) = refl

-- a state: its two weights
pub stored_state : (a : ℕ) (s : State) (xs us vs : List ℕ) → a + state_size ≤ length xs → us ≡ splice a (weight_bytes s.initial) xs → vs ≡ splice (a + weight_size) (weight_bytes s.last) us
    → vs ≡ splice a (state_bytes s) xs
unfolding state_bytes weight_bytes
stored_state a s xs us vs h e f =
    let p = length_weight s.initial in
    let q = length_weight s.last in
    splice-behind a (a + weight_size) (weight_bytes s.initial) (weight_bytes s.last) xs us vs e f (omega arith) (omega arith)

-- ---- loading

module _ (at : ℕ) (xs : List ℕ) where
  -- a weight whose flag is 0
  pub weight-absent : get_or xs at 0 ≡ 0 → None ≡ weight_at at xs
  unfolding weight_at
  weight-absent e = rw e

  -- a weight with another flag
  pub weight_present : (n : ℕ) → (get_or xs at 0 ≡ 0 → ⊥) → n ≡ le (part (at + 1) 4 xs) → Some n ≡ weight_at at xs
  unfolding weight_at
  weight_present n h e = ap Some e ∙ go (get_or xs at 0) h
    where
      go : (f : ℕ) → (f ≡ 0 → ⊥) → Some (le (part (at + 1) 4 xs)) ≡ weight_of f (le (part (at + 1) 4 xs))
      go zero k = absurd (k refl)
      go (suc f) k = refl

  -- a state: its two weights
  pub state_at_lem : (i l : Weight) → i ≡ weight_at at xs → l ≡ weight_at (at + weight_size) xs → ◌≡◌ {A = State} (record { initial = i; last = l }) (state_at at xs)
  unfolding state_at
  state_at_lem i l e f = rw (e, f)

-- an array that was filled from a part of a slice
pub array_of : (at n : ℕ) (xs a : List ℕ) → at + n ≤ length xs → a ≡ splice 0 (take (at + n - at) (drop at xs)) (replicate n 0) → a ≡ part at n xs
unfolding part splice
array_of at n xs a h e =
    let m : at + n - at ≡ n = omega arith in
    let l : length (take n (drop at xs)) ≡ n = simp (length-take, length-drop) (omega arith) in
    let k : length {A = ℕ} (replicate n 0) ≤ 0 + length (take n (drop at xs)) = simp length-replicate (omega arith) in
    e ∙ rw m (ap (λ (r : List ℕ). take n (drop at xs) ++ r) (drop_of_length-le (replicate n 0) k) ∙ append-nil (take n (drop at xs)))
