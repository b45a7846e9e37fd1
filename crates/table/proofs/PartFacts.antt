-- Facts of `part`, over any element type.
use Prim.Native.Nat.{ℕ, suc, ◌+◌, ◌≤◌, ◌<◌}
use mathlib.Core.Path.{◌≡◌, refl, sym, ap, ◌∙◌}
use mathlib.Core.List.{List, [], ◌∷◌, ◌++◌}
use native.Mathlib.Omega.{arith}
use native.Mathlib.Numerals.{add-one}
use lib.ListN.{length, get_or, take, drop, length-take, length-drop}
use lib.Seq.{length-take-le, take_all, take_at, drop-append-add, drop-drop, drop_at, get_or-drop, get_or-take, drop-cons, take-add}
use Rattle.automata.proofs.RecordFacts.{take_drop_take}
use Rattle.table.specs.Region.{part}

module _ {A : Type 0} where
  -- the length of a region that the list holds
  pub length_part : (a n : ℕ) (xs : List A) → a + n ≤ length xs → length (part a n xs) ≡ n
  unfolding part
  length_part a n xs h = simp (length-take, length-drop) (omega arith)

  -- an element of a region
  pub get_d_part : (a n : ℕ) (xs : List A) (i : ℕ) (d : A) → i < n → get_or (part a n xs) i d ≡ get_or xs (a + i) d
  unfolding part
  get_d_part a n xs i d h = rw (get_or-take, get_or-drop)

  -- the region of no elements
  pub part_zero : (a : ℕ) (xs : List A) → part a 0 xs ≡ []
  unfolding part
  part_zero a xs = refl

  -- a region's first element
  pub part_suc : (a n : ℕ) (xs : List A) (d : A) → a < length xs → part a (suc n) xs ≡ get_or xs a d ∷ part (a + 1) n xs
  unfolding part
  part_suc a n xs d h = rw (drop-cons xs a d, add-one)

  -- a part of a part
  pub part-part : (k m a n : ℕ) (xs : List A) → k + m ≤ n → part k m (part a n xs) ≡ part (a + k) m xs
  unfolding part
  part-part k m a n xs h = take_drop_take k m n (drop a xs) h ∙ ap (take m) (drop-drop k a xs)

  -- a part of two lists joined that lies in the second
  pub part_append_right : (k n : ℕ) (ys zs : List A) → part (length ys + k) n (ys ++ zs) ≡ part k n zs
  unfolding part
  part_append_right k n ys zs = ap (take n) (drop-append-add ys zs k)

  -- the first field of a record that is written field by field
  pub part_front : (n : ℕ) (p q : List A) → length p ≡ n → part 0 n (p ++ q) ≡ p
  unfolding part
  part_front n p q e = take_at p q n e

  -- its last field
  pub part_end : (a n : ℕ) (p q : List A) → length p ≡ a → length q ≡ n → part a n (p ++ q) ≡ q
  unfolding part
  part_end a n p q e f = ap (take n) (drop_at p q a e) ∙ take_all n q (omega arith)

  -- a field between others
  pub part_middle : (a n : ℕ) (p q r : List A) → length p ≡ a → length q ≡ n → part a n (p ++ (q ++ r)) ≡ q
  unfolding part
  part_middle a n p q r e f = ap (take n) (drop_at p (q ++ r) a e) ∙ take_at q r n f

  -- two regions that adjoin are one
  pub part-add : (a m n : ℕ) (xs : List A) → part a (m + n) xs ≡ part a m xs ++ part (a + m) n xs
  unfolding part
  part-add a m n xs = take-add m n (drop a xs) ∙ ap (λ (l : List A). take m (drop a xs) ++ take n l) (drop-drop m a xs)

  -- what is asked where the first n elements of an array of m are lent
  pub prefix_length : (n m : ℕ) (xs : List A) → length xs ≡ m → n ≤ m → n ≡ length (take n xs)
  prefix_length n m xs e h = sym (length-take-le n xs (omega arith))
