-- Facts of `le` and `to_le`.
use Prim.Native.Nat.{ℕ, zero, suc, ◌+◌, ◌*◌, ◌/◌, ◌%◌, ◌<◌, ◌≤◌, ◌^◌}
use mathlib.Core.Path.{◌≡◌, refl, sym, ap, ap₂, ◌∙◌}
use mathlib.Core.List.{List, [], ◌∷◌, ◌++◌}
use native.Mathlib.Omega.{arith}
use native.Mathlib.Nat.{pow-suc, add_assoc, mul_assoc, mul_comm, add-mul-mod_self_left}
use lib.ListN.{length, get_or, take, drop, length-drop}
use lib.Seq.{get_or-drop}
use Rattle.table.specs.Region.{part, splice}
use Rattle.table.specs.Endian.{le, to_le}
use Rattle.table.proofs.RegionFacts.{part-splice_same, part_suc, part_zero, part-add, length_part, splice-behind}

-- a number has as many bytes as are asked for
pub length_to_le : (n v : ℕ) → length (to_le n v) ≡ n
length_to_le zero v = refl
length_to_le (suc n) v = ap suc (length_to_le n (v / 256))

-- a number that fits its bytes is read back from them
pub le-to_le : (n v : ℕ) → v < 256 ^ n → le (to_le n v) ≡ v
le-to_le zero v h = omega arith
le-to_le (suc n) v h =
    let k : v < 256 ^ n * 256 = rw pow-suc at h in
    let l : v / 256 < 256 ^ n = omega arith in
    rw (le-to_le n (v / 256) l) (omega arith)

-- the number in two bytes
pub le-two : (a : ℕ) (xs : List ℕ) → a + 2 ≤ length xs → le (part a 2 xs) ≡ get_or xs a 0 + 256 * get_or xs (a + 1) 0
le-two a xs h =
    let h0 : a < length xs = omega arith in
    let h1 : a + 1 < length xs = omega arith in
    rw (part_suc a 1 xs 0 h0, part_suc (a + 1) 0 xs 0 h1, part_zero (a + 1 + 1) xs) (omega arith)

-- the number in four bytes
pub le_four : (a : ℕ) (xs : List ℕ) → a + 4 ≤ length xs → le (part a 4 xs) ≡ get_or xs a 0 + 256 * (get_or xs (a + 1) 0 + 256 * (get_or xs (a + 2) 0 + 256 * get_or xs (a + 3) 0))
le_four a xs h =
    let h0 : a < length xs = omega arith in
    let h1 : a + 1 < length xs = omega arith in
    let h2 : a + 2 < length xs = omega arith in
    let h3 : a + 3 < length xs = omega arith in
    rw (part_suc a 3 xs 0 h0, part_suc (a + 1) 2 xs 0 h1, add_assoc a 1 1, part_suc (a + 2) 1 xs 0 h2, add_assoc a 2 1, part_suc (a + 3) 0 xs 0 h3, part_zero (a + 3 + 1) xs) (omega arith)

-- the bytes of two numbers, one behind the other, are those of one number
pub le_append : (xs ys : List ℕ) → le (xs ++ ys) ≡ le xs + 256 ^ length xs * le ys
le_append [] ys = omega arith
le_append (x ∷ xs) ys =
    let e : 256 * (256 ^ length xs * le ys) ≡ 256 ^ suc (length xs) * le ys =
    rw pow-suc (sym (mul_assoc 256 (256 ^ length xs) (le ys)) ∙ ap (λ (k : ℕ). k * le ys) (mul_comm 256 (256 ^ length xs))) in
    rw (le_append xs ys) (omega (arith, e))

-- the number in eight bytes is that of its halves
pub le_eight : (a : ℕ) (xs : List ℕ) → a + 8 ≤ length xs → le (part a 8 xs) ≡ le (part a 4 xs) + 4294967296 * le (part (a + 4) 4 xs)
le_eight a xs h =
    let l : length (part a 4 xs) ≡ 4 = length_part a 4 xs (omega arith) in
    ap le (part-add a 4 4 xs) ∙ le_append (part a 4 xs) (part (a + 4) 4 xs)
    ∙ ap (λ (k : ℕ). le (part a 4 xs) + 256 ^ k * le (part (a + 4) 4 xs)) l

-- the eight bytes of a number are those of its halves
to_le_eight : (v : ℕ) → to_le 8 v ≡ to_le 4 (v % 4294967296) ++ to_le 4 (v / 4294967296)
to_le_eight v =
    let l = v % 4294967296 in
    let h = v / 4294967296 in
    let a : v / 256 ≡ l / 256 + 16777216 * h = omega arith in
    let b : v / 256 / 256 ≡ l / 256 / 256 + 65536 * h = omega (arith, a) in
    let c : v / 256 / 256 / 256 ≡ l / 256 / 256 / 256 + 256 * h = omega (arith, b) in
    let p : l % 256 ≡ v % 256 = omega arith in
    let q : l / 256 % 256 ≡ v / 256 % 256 = omega (arith, a) in
    let r : l / 256 / 256 % 256 ≡ v / 256 / 256 % 256 = omega (arith, b) in
    let s : l / 256 / 256 / 256 % 256 ≡ v / 256 / 256 / 256 % 256 = rw c (sym (add-mul-mod_self_left (l / 256 / 256 / 256) 256 h)) in
    let k : l < 4294967296 = omega arith in
    let u : l / 256 / 256 / 256 < 256 = omega (arith, k) in
    let t : h ≡ v / 256 / 256 / 256 / 256 = omega (arith, c, u) in
    rw (p, q, r, s, t)

-- the two halves of a number written one behind the other
pub eight_stored : (a v : ℕ) (xs us vs : List ℕ) → a + 8 ≤ length xs → us ≡ splice a (to_le 4 (v % 4294967296)) xs
    → vs ≡ splice (a + 4) (to_le 4 (v / 4294967296)) us → vs ≡ splice a (to_le 8 v) xs
eight_stored a v xs us vs h e f =
    splice-behind a (a + 4) (to_le 4 (v % 4294967296)) (to_le 4 (v / 4294967296)) xs us vs e f refl (omega arith)
    ∙ ap (λ (l : List ℕ). splice a l xs) (sym (to_le_eight v))

-- a number read where it was written
pub le-splice : (n v a : ℕ) (xs : List ℕ) → v < 256 ^ n → a + n ≤ length xs → le (part a n (splice a (to_le n v) xs)) ≡ v
le-splice n v a xs h k =
    let e : length (to_le n v) ≡ n = length_to_le n v in
    let m : a + length (to_le n v) ≤ length xs = omega arith in
    ap (λ (j : ℕ). le (part a j (splice a (to_le n v) xs))) (sym e) ∙ ap le (part-splice_same a (to_le n v) xs m) ∙ le-to_le n v h

-- every element is below 256
abbrev pub Bytes : List ℕ → Type 0
Bytes xs = (i : ℕ) → get_or xs i 0 < 256

-- the first bytes of some are those of the number that they stand for
to_le_take : (n : ℕ) (xs : List ℕ) → n ≤ length xs → Bytes xs → to_le n (le (take n xs)) ≡ take n xs
to_le_take zero xs h f = refl
to_le_take (suc n) [] h f = absurd (omega arith)
to_le_take (suc n) (x ∷ xs) h f =
    let y = take n xs in
    let b : x < 256 = f 0 in
    let p : (x + 256 * le y) % 256 ≡ x = omega (arith, b) in
    let q : (x + 256 * le y) / 256 ≡ le y = omega (arith, b) in
    ap₂ (λ (i j : ℕ). i ∷ to_le n j) p q ∙ ap (λ (z : List ℕ). x ∷ z) (to_le_take n xs (omega arith) (λ i. f (suc i)))

-- the bytes of a region are those of the number that they stand for
pub to_le-part : (a n : ℕ) (xs : List ℕ) → a + n ≤ length xs → Bytes xs → to_le n (le (part a n xs)) ≡ part a n xs
unfolding part
to_le-part a n xs h f = let l = length-drop a xs in to_le_take n (drop a xs) (omega (arith, l)) (λ i. rw (get_or-drop a xs i 0) (f (a + i)))

-- regions of as many bytes with the same number are the same
pub le_same : (a b n : ℕ) (xs ys : List ℕ) → a + n ≤ length xs → b + n ≤ length ys → Bytes xs → Bytes ys → le (part a n xs) ≡ le (part b n ys) → part a n xs ≡ part b n ys
le_same a b n xs ys h k f g e = sym (to_le-part a n xs h f) ∙ ap (to_le n) e ∙ to_le-part b n ys k g
