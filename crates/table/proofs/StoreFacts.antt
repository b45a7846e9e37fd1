-- What stores of one element after the other leave, as `splice`.
use Prim.Native.Nat.{ℕ, suc, ◌+◌, ◌≤◌, ◌<◌}
use mathlib.Core.Path.{◌≡◌, sym, ap, ◌∙◌}
use mathlib.Core.List.{List, [], ◌∷◌, ◌++◌, append_assoc, append-nil}
use native.Mathlib.Omega.{arith}
use native.Mathlib.Numerals.{add-one}
use lib.ListN.{length, get_or, take, drop, set, replicate, length-append, length-take}
use lib.Seq.{drop-length, set_split, set_at, take-suc, drop-cons}
use Rattle.table.specs.Region.{splice}

module _ {A : Type 0} where
  -- a store right behind the region that was written
  pub splice_snoc : (a : ℕ) (ys xs : List A) (v : A) → a + length ys < length xs → set (splice a ys xs) (a + length ys) v ≡ splice a (ys ++ (v ∷ [])) xs
  unfolding splice
  splice_snoc a ys xs v h =
      let e : length (take a xs ++ ys) ≡ a + length ys = simp (length-append, length-take) (omega arith) in
      let f : a + length (ys ++ (v ∷ [])) ≡ suc (a + length ys) = simp length-append (omega arith) in
      ap (λ (l : List A). set l (a + length ys) v) (sym (append_assoc (take a xs) ys (drop (a + length ys) xs)))
      ∙ ap (λ (l : List A). set ((take a xs ++ ys) ++ l) (a + length ys) v) (drop-cons xs (a + length ys) v h)
      ∙ set_at (take a xs ++ ys) (get_or xs (a + length ys) v) (drop (suc (a + length ys)) xs) v (a + length ys) e
      ∙ append_assoc (take a xs) ys (v ∷ drop (suc (a + length ys)) xs)
      ∙ ap (λ (l : List A). take a xs ++ l) (sym (append_assoc ys (v ∷ []) (drop (suc (a + length ys)) xs)))
      ∙ ap (λ (m : ℕ). take a xs ++ ((ys ++ (v ∷ [])) ++ drop m xs)) (sym f)

  -- a turn of a loop that copies ys to place a
  pub splice-more : (a i : ℕ) (ys xs : List A) (d : A) → a + i < length xs → i < length ys → set (splice a (take i ys) xs) (a + i) (get_or ys i d) ≡ splice a (take (i + 1) ys) xs
  splice-more a i ys xs d h k =
      let e : length (take i ys) ≡ i = simp length-take (omega arith) in
      let g : a + length (take i ys) < length xs = rw e h in
      ap (λ (m : ℕ). set (splice a (take i ys) xs) (a + m) (get_or ys i d)) (sym e)
      ∙ splice_snoc a (take i ys) xs (get_or ys i d) g
      ∙ ap (λ (l : List A). splice a l xs) (sym (take-suc ys i d k) ∙ ap (λ (m : ℕ). take m ys) (sym (add-one i)))

  -- one element stored
  pub one_store : (a : ℕ) (v : A) (xs : List A) → a < length xs → set xs a v ≡ splice a (v ∷ []) xs
  unfolding splice
  one_store a v xs h = set_split xs a v h ∙ ap (λ (m : ℕ). take a xs ++ (v ∷ drop m xs)) (sym (add-one a))

  -- two elements stored one behind the other
  pub two_stores : (a : ℕ) (v w : A) (xs : List A) → a + 2 ≤ length xs → set (set xs a v) (a + 1) w ≡ splice a (v ∷ w ∷ []) xs
  two_stores a v w xs h =
      let k : a < length xs = omega arith in
      ap (λ (l : List A). set l (a + 1) w) (one_store a v xs k) ∙ splice_snoc a (v ∷ []) xs w (omega arith)

  -- four of them
  pub four_stores : (a : ℕ) (v w x y : A) (xs : List A) → a + 4 ≤ length xs → set (set (set (set xs a v) (a + 1) w) (a + 2) x) (a + 3) y ≡ splice a (v ∷ w ∷ x ∷ y ∷ []) xs
  four_stores a v w x y xs h =
      let k : a + 2 ≤ length xs = omega arith in
      ap (λ (l : List A). set (set l (a + 2) x) (a + 3) y) (two_stores a v w xs k)
      ∙ ap (λ (l : List A). set l (a + 3) y) (splice_snoc a (v ∷ w ∷ []) xs x (omega arith))
      ∙ splice_snoc a (v ∷ w ∷ x ∷ []) xs y (omega arith)

  -- the end of a loop that fills a list with one value
  pub fill_all : (v : A) (xs : List A) → replicate (length xs) v ++ drop (length xs) xs ≡ replicate (length xs) v
  fill_all v xs = rw (drop-length, append-nil)
