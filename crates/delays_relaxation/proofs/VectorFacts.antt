-- Facts of vectors: one entry, a store to it, and what a store leaves.
use Prim.Native.Nat.{ℕ, zero, suc, ◌+◌, ◌-◌, ◌*◌, ◌%◌, ◌<◌, ◌≤◌}
use mathlib.Core.Path.{◌≡◌, refl, sym, ap, ◌∙◌}
use mathlib.Core.Logic.{◌⊎◌, inl, inr}
use mathlib.Core.List.{List}
use native.Mathlib.Omega.{arith}
use native.Mathlib.Decide.{ℕ_discrete}
use lib.ListN.{length, get_or, set, length-set}
use lib.Seq.{ext_get_or, get_or-set_same, get_or-set_other}
use lib.Dec.{ltb, ltb→lt}
use mathlib.Core.Bool.{Bool, true, false}
use Rattle.automata.proofs.TestFacts.{ltb_false}
use Rattle.automata.specs.Layout.{delays_size}
use Rattle.table.specs.Region.{part, splice}
use Rattle.table.specs.Endian.{le, to_le}
use Rattle.table.proofs.RegionFacts.{get_d_splice_before, get_d_splice_after, length_splice, part-splice_before, part-splice_after}
use Rattle.table.proofs.EndianFacts.{le-two, le-splice, length_to_le}
use Rattle.delays_relaxation.specs.Vector.{Room, vector, Frame}

pub length_vector : (at n : ℕ) (w : List ℕ) → length (vector at n w) ≡ n
unfolding vector
length_vector at zero w = refl
length_vector at (suc n) w = ap suc (length_vector (at + delays_size) n w)

-- the entry of state q
pub vector_at : (at n : ℕ) (w : List ℕ) (q d : ℕ) → q < n → get_or (vector at n w) q d ≡ le (part (at + delays_size * q) 2 w)
unfolding vector
vector_at at zero w q d h = absurd (omega arith)
vector_at at (suc n) w zero d h = ap (λ (k : ℕ). le (part k 2 w)) (omega arith)
vector_at at (suc n) w (suc q) d h = vector_at (at + delays_size) n w q d (omega arith) ∙ ap (λ (k : ℕ). le (part k 2 w)) (omega arith)

-- two vectors that are equal entry by entry
pub vector_ext : (at n b : ℕ) (w v : List ℕ) → ((q : ℕ) → q < n → le (part (at + delays_size * q) 2 w) ≡ le (part (b + delays_size * q) 2 v)) → vector at n w ≡ vector b n v
vector_ext at n b w v f =
    ext_get_or 0 (vector at n w) (vector b n v) (length_vector at n w ∙ sym (length_vector b n v))
    (λ q l. let k : q < n = omega (arith, length_vector at n w) in vector_at at n w q 0 k ∙ f q k ∙ sym (vector_at b n v q 0 k))

-- ---- frames

pub frame_refl : (at m n : ℕ) (w : List ℕ) → Frame at m n w w
frame_refl at m n w = record { same_length = refl; same = λ i h. refl }

pub frame_trans : (at m n : ℕ) (u w v : List ℕ) → Frame at m n u w → Frame at m n w v → Frame at m n u v
frame_trans at m n u w v f g = record { same_length = f.same_length ∙ g.same_length; same = λ i h. f.same i h ∙ g.same i h }

-- a number that lies outside is kept
pub frame_keeps : (at m n : ℕ) (w v : List ℕ) → Frame at m n w v → (a : ℕ) → a + 2 ≤ length v
    → ((a < at) ⊎ ((at + delays_size * n ≤ a) ⊎ (m ≤ (a - at) % delays_size))) → ((a + 1 < at) ⊎ ((at + delays_size * n ≤ a + 1) ⊎ (m ≤ (a + 1 - at) % delays_size)))
    → le (part a 2 w) ≡ le (part a 2 v)
frame_keeps at m n w v f a l h k =
    let e = f.same_length in
    let p = f.same a h in
    let q = f.same (a + 1) k in
    le-two a w (omega arith) ∙ (rw (p, q) (sym (le-two a v l)))

-- a store to the vector leaves the rest as it is
pub frame_store : (at n q x : ℕ) (w : List ℕ) → q < n → Room at 2 n w → Frame at 2 n (splice (at + delays_size * q) (to_le 2 x) w) w
frame_store at n q x w h l =
    let e : length (to_le 2 x) ≡ 2 = length_to_le 2 x in
    record {
      same_length = length_splice (at + delays_size * q) (to_le 2 x) w (omega arith);
      same = λ i s. go i s;
    }
  where
    go : (i : ℕ) → (i < at) ⊎ ((at + delays_size * n ≤ i) ⊎ (2 ≤ (i - at) % delays_size)) → get_or (splice (at + delays_size * q) (to_le 2 x) w) i 0 ≡ get_or w i 0
    go i (inl b) = get_d_splice_before (at + delays_size * q) (to_le 2 x) w i 0 (omega arith) (omega arith)
    go i (inr (inl b)) = get_d_splice_after (at + delays_size * q) (to_le 2 x) w i 0 (omega (arith, length_to_le 2 x)) (omega (arith, length_to_le 2 x))
    go i (inr (inr b)) = by_side (ltb i (at + delays_size * q)) refl
      where
        by_side : (s : Bool) → ltb i (at + delays_size * q) ≡ s → get_or (splice (at + delays_size * q) (to_le 2 x) w) i 0 ≡ get_or w i 0
        by_side true e = let k : i < at + delays_size * q = ltb→lt _ _ (rw e tt) in get_d_splice_before (at + delays_size * q) (to_le 2 x) w i 0 (omega arith) k
        by_side false e =
            let k : at + delays_size * q ≤ i = ltb_false e in
            get_d_splice_after (at + delays_size * q) (to_le 2 x) w i 0 (omega (arith, length_to_le 2 x)) (omega (arith, length_to_le 2 x))

-- and is what stands there then
pub vector_store : (at n q x : ℕ) (w : List ℕ) → q < n → Room at 2 n w → x < 65536
    → vector at n (splice (at + delays_size * q) (to_le 2 x) w) ≡ set (vector at n w) q x
vector_store at n q x w h l f =
    ext_get_or 0 (vector at n (splice (at + delays_size * q) (to_le 2 x) w)) (set (vector at n w) q x)
    (length_vector at n (splice (at + delays_size * q) (to_le 2 x) w) ∙ sym (length-set (vector at n w) q x ∙ length_vector at n w))
    (λ p k. let b : p < n = omega (arith, length_vector at n (splice (at + delays_size * q) (to_le 2 x) w)) in
    vector_at at n (splice (at + delays_size * q) (to_le 2 x) w) p 0 b ∙ go p b (ℕ_discrete p q))
  where
    go : (p : ℕ) → p < n → Dec (p ≡ q) → le (part (at + delays_size * p) 2 (splice (at + delays_size * q) (to_le 2 x) w)) ≡ get_or (set (vector at n w) q x) p 0
    go p b (yes e) =
        let c : q < length (vector at n w) = omega (arith, length_vector at n w) in
        rw (e, get_or-set_same (vector at n w) q) (le-splice 2 x (at + delays_size * q) w f (omega arith))
    go p b (no ne) =
        let d : get_or (set (vector at n w) q x) p 0 ≡ get_or (vector at n w) p 0 = rw get_or-set_other in
        frame_away p b (lt_or p q ne) ∙ sym (vector_at at n w p 0 b) ∙ sym d
      where
        lt_or : (a c : ℕ) → (a ≡ c → ⊥) → (a < c) ⊎ (c < a)
        lt_or zero zero k = absurd (k refl)
        lt_or zero (suc c) k = inl (omega arith)
        lt_or (suc a) zero k = inr (omega arith)
        lt_or (suc a) (suc c) k = lt_suc (lt_or a c (λ e. k (ap suc e)))
          where
            lt_suc : (a < c) ⊎ (c < a) → (suc a < suc c) ⊎ (suc c < suc a)
            lt_suc (inl r) = inl (omega arith)
            lt_suc (inr r) = inr (omega arith)

        frame_away : (p : ℕ) → p < n → (p < q) ⊎ (q < p) → le (part (at + delays_size * p) 2 (splice (at + delays_size * q) (to_le 2 x) w)) ≡ le (part (at + delays_size * p) 2 w)
        frame_away p b (inl r) = ap le (part-splice_before (at + delays_size * p) 2 (at + delays_size * q) (to_le 2 x) w (omega arith) (omega arith))
        frame_away p b (inr r) = ap le (part-splice_after (at + delays_size * p) 2 (at + delays_size * q) (to_le 2 x) w (omega (arith, length_to_le 2 x)) (omega (arith, length_to_le 2 x)))
