-- Facts of `splice`, over any element type.
use Prim.Native.Nat.{ℕ, zero, suc, ◌+◌, ◌-◌, ◌≤◌, ◌<◌}
use mathlib.Core.Path.{◌≡◌, sym, ap, ap₂, ◌∙◌}
use mathlib.Core.List.{List, [], ◌∷◌, ◌++◌, append_assoc}
use native.Mathlib.Omega.{arith}
use native.Mathlib.Nat.{add-zero, zero-add, suc-add}
use lib.ListN.{take-append-drop, length, get_or, take, drop, length-append, length-take, length-drop, get_or-append}
use lib.Seq.{take-append-add, take_at, take-take, drop-append-add, drop-drop, drop_at, take-append_seam, drop-append-le, take-append-le, get_or-drop, get_or-take, get_or-append-add}
use Rattle.automata.proofs.RecordFacts.{take_drop_take}
use Rattle.table.specs.Region.{part, splice}
use Rattle.table.proofs.PartFacts.{length_part, part-part}

module _ {A : Type 0} where
  -- writing over a list keeps its length
  pub length_splice : (a : ℕ) (ys xs : List A) → a + length ys ≤ length xs → length (splice a ys xs) ≡ length xs
  unfolding splice
  length_splice a ys xs h = simp (length-append, length-take, length-drop) (omega arith)

  -- what is behind the region that was written
  pub drop_splice : (b a : ℕ) (ys xs : List A) → a + length ys ≤ b → a + length ys ≤ length xs → drop b (splice a ys xs) ≡ drop b xs
  unfolding splice
  drop_splice b a ys xs h k =
      let e : length (take a xs ++ ys) ≡ a + length ys = simp (length-append, length-take) (omega arith) in
      let s : b ≡ length (take a xs ++ ys) + (b - (a + length ys)) = omega arith in
      let t : a + length ys + (b - (a + length ys)) ≡ b = omega arith in
      ap (drop b) (sym (append_assoc (take a xs) ys (drop (a + length ys) xs)))
      ∙ ap (λ (m : ℕ). drop m ((take a xs ++ ys) ++ drop (a + length ys) xs)) s
      ∙ drop-append-add (take a xs ++ ys) (drop (a + length ys) xs) (b - (a + length ys))
      ∙ drop-drop (b - (a + length ys)) (a + length ys) xs
      ∙ ap (λ (m : ℕ). drop m xs) t

  -- the front of a list that was written over, up to a place before the region
  pub take_splice : (b a : ℕ) (ys xs : List A) → b ≤ a → a ≤ length xs → take b (splice a ys xs) ≡ take b xs
  unfolding splice
  take_splice b a ys xs h k =
      let e : b ≤ length (take a xs) = simp length-take (omega arith) in
      take-append-le b (take a xs) (ys ++ drop (a + length ys) xs) e ∙ take-take b a xs h

  -- up to the end of the region
  pub take_splice_end : (a : ℕ) (ys xs : List A) → a ≤ length xs → take (a + length ys) (splice a ys xs) ≡ take a xs ++ ys
  unfolding splice
  take_splice_end a ys xs h =
      let e : length (take a xs ++ ys) ≡ a + length ys = simp (length-append, length-take) (omega arith) in
      ap (take (a + length ys)) (sym (append_assoc (take a xs) ys (drop (a + length ys) xs))) ∙ take_at (take a xs ++ ys) (drop (a + length ys) xs) (a + length ys) e

  -- up to a place within the region
  pub take_splice_in : (a k : ℕ) (ys xs : List A) → a ≤ length xs → k ≤ length ys → take (a + k) (splice a ys xs) ≡ take a xs ++ take k ys
  unfolding splice
  take_splice_in a k ys xs h l =
      let e : length (take a xs) ≡ a = simp length-take (omega arith) in
      ap (λ (m : ℕ). take (m + k) (take a xs ++ (ys ++ drop (a + length ys) xs))) (sym e)
      ∙ take-append-add (take a xs) (ys ++ drop (a + length ys) xs) k
      ∙ ap (λ (t : List A). take a xs ++ t) (take-append-le k ys (drop (a + length ys) xs) l)

  -- an element before the region that was written
  pub get_d_splice_before : (a : ℕ) (ys xs : List A) (i : ℕ) (d : A) → a ≤ length xs → i < a → get_or (splice a ys xs) i d ≡ get_or xs i d
  unfolding splice
  get_d_splice_before a ys xs i d h k =
      let e : i < length (take a xs) = simp length-take (omega arith) in
      get_or-append (take a xs) _ d i e ∙ get_or-take a xs i d k

  -- one in it
  pub get_d_splice_in : (a : ℕ) (ys xs : List A) (i : ℕ) (d : A) → a ≤ length xs → i < length ys → get_or (splice a ys xs) (a + i) d ≡ get_or ys i d
  unfolding splice
  get_d_splice_in a ys xs i d h k =
      let e : length (take a xs) ≡ a = simp length-take (omega arith) in
      ap (λ (m : ℕ). get_or (take a xs ++ (ys ++ drop (a + length ys) xs)) (m + i) d) (sym e)
      ∙ get_or-append-add (take a xs) _ i d ∙ get_or-append ys _ d i k

  -- one after it
  pub get_d_splice_after : (a : ℕ) (ys xs : List A) (i : ℕ) (d : A) → a + length ys ≤ length xs → a + length ys ≤ i → get_or (splice a ys xs) i d ≡ get_or xs i d
  unfolding splice
  get_d_splice_after a ys xs i d h k =
      let e : length (take a xs ++ ys) ≡ a + length ys = simp (length-append, length-take) (omega arith) in
      let s : i ≡ length (take a xs ++ ys) + (i - (a + length ys)) = omega arith in
      let t : a + length ys + (i - (a + length ys)) ≡ i = omega arith in
      rw (← append_assoc (take a xs) ys (drop (a + length ys) xs))
      (ap (λ (m : ℕ). get_or ((take a xs ++ ys) ++ drop (a + length ys) xs) m d) s
      ∙ get_or-append-add (take a xs ++ ys) _ (i - (a + length ys)) d ∙ get_or-drop _ xs _ d ∙ ap (λ (m : ℕ). get_or xs m d) t)

  -- the region that was written
  pub part-splice_same : (a : ℕ) (ys xs : List A) → a + length ys ≤ length xs → part a (length ys) (splice a ys xs) ≡ ys
  unfolding part splice
  part-splice_same a ys xs h =
      let e : length (take a xs) ≡ a = simp length-take (omega arith) in
      ap (take (length ys)) (drop_at (take a xs) (ys ++ drop (a + length ys) xs) a e) ∙ take-append_seam ys (drop (a + length ys) xs)

  -- a region before it
  pub part-splice_before : (b n a : ℕ) (ys xs : List A) → b + n ≤ a → a ≤ length xs → part b n (splice a ys xs) ≡ part b n xs
  unfolding part splice
  part-splice_before b n a ys xs h k =
      let e : b ≤ length (take a xs) = simp length-take (omega arith) in
      let f : n ≤ length (drop b (take a xs)) = simp (length-drop, length-take) (omega arith) in
      ap (take n) (drop-append-le b (take a xs) (ys ++ drop (a + length ys) xs) e)
      ∙ take-append-le n (drop b (take a xs)) (ys ++ drop (a + length ys) xs) f
      ∙ take_drop_take b n a xs h

  -- a region after it
  pub part-splice_after : (b n a : ℕ) (ys xs : List A) → a + length ys ≤ b → a + length ys ≤ length xs → part b n (splice a ys xs) ≡ part b n xs
  unfolding part splice
  part-splice_after b n a ys xs h k = ap (take n) (drop_splice b a ys xs h k)

  -- a part of the region that was written
  pub part-splice_in : (k n a : ℕ) (ys xs : List A) → k + n ≤ length ys → a + length ys ≤ length xs → part (a + k) n (splice a ys xs) ≡ part k n ys
  part-splice_in k n a ys xs h m = sym (part-part k n a (length ys) (splice a ys xs) h) ∙ ap (part k n) (part-splice_same a ys xs m)

  -- nothing written
  pub splice-none : (a : ℕ) (xs : List A) → splice a [] xs ≡ xs
  unfolding splice
  splice-none a xs = rw add-zero (take-append-drop a xs)

  -- the same region written twice
  pub splice-twice : (a : ℕ) (ys zs xs : List A) → length ys ≡ length zs → a + length ys ≤ length xs → splice a zs (splice a ys xs) ≡ splice a zs xs
  unfolding splice
  splice-twice a ys zs xs e h =
      let k : a ≤ length xs = omega arith in
      let m : a + length ys ≤ a + length zs = omega arith in
      let p : take a (splice a ys xs) ≡ take a xs = take_splice a a ys xs (omega arith) k in
      let q : drop (a + length zs) (splice a ys xs) ≡ drop (a + length zs) xs = drop_splice (a + length zs) a ys xs m h in
      ap₂ (λ (f g : List A). f ++ (zs ++ g)) p q

  -- two regions written one behind the other are one region
  pub splice_append : (a : ℕ) (ys zs xs : List A) → a + length ys + length zs ≤ length xs → splice (a + length ys) zs (splice a ys xs) ≡ splice a (ys ++ zs) xs
  unfolding splice
  splice_append a ys zs xs h =
      let k : a ≤ length xs = omega arith in
      let m : a + length ys ≤ length xs = omega arith in
      let p : take (a + length ys) (splice a ys xs) ≡ take a xs ++ ys = take_splice_end a ys xs k in
      let q : drop (a + length ys + length zs) (splice a ys xs) ≡ drop (a + length ys + length zs) xs = drop_splice (a + length ys + length zs) a ys xs (omega arith) m in
      let e : a + length ys + length zs ≡ a + length (ys ++ zs) = simp length-append (omega arith) in
      (ap₂ (λ (f g : List A). f ++ (zs ++ g)) p q
      ∙ append_assoc (take a xs) ys (zs ++ drop (a + length ys + length zs) xs)
      ∙ ap (λ (l : List A). take a xs ++ l) (sym (append_assoc ys zs (drop (a + length ys + length zs) xs)))
      ∙ ap (λ (n : ℕ). take a xs ++ ((ys ++ zs) ++ drop n xs)) e)

  -- the same, from what the two writes left
  pub splice-behind : (a b : ℕ) (ys zs xs us vs : List A) → us ≡ splice a ys xs → vs ≡ splice b zs us → b ≡ a + length ys → a + length ys + length zs ≤ length xs → vs ≡ splice a (ys ++ zs) xs
  splice-behind a b ys zs xs us vs e f g h = f ∙ ap₂ (λ (m : ℕ) (l : List A). splice m zs l) g e ∙ splice_append a ys zs xs h

  -- a region written back as it is
  pub splice_self : (a n : ℕ) (xs : List A) → a + n ≤ length xs → splice a (part a n xs) xs ≡ xs
  unfolding splice part
  splice_self a n xs h =
      let e : length (part a n xs) ≡ n = length_part a n xs h in
      (ap (λ (m : ℕ). take a xs ++ (take n (drop a xs) ++ drop (a + m) xs)) e
      ∙ ap (λ (l : List A). take a xs ++ (take n (drop a xs) ++ l)) (sym (drop-drop n a xs))
      ∙ ap (λ (l : List A). take a xs ++ l) (take-append-drop n (drop a xs))
      ∙ take-append-drop a xs)

  -- a region behind the first element
  splice_suc : (a : ℕ) (ys : List A) (x : A) (xs : List A) → splice (suc a) ys (x ∷ xs) ≡ x ∷ splice a ys xs
  unfolding splice
  splice_suc a ys x xs = ap (λ (m : ℕ). x ∷ (take a xs ++ (ys ++ drop m (x ∷ xs)))) (suc-add a (length ys))

  -- a region that starts with the first element
  splice_cons : (y : A) (ys : List A) (x : A) (xs : List A) → splice 0 (y ∷ ys) (x ∷ xs) ≡ y ∷ splice 0 ys xs
  unfolding splice
  splice_cons y ys x xs = rw (zero-add (suc (length ys)), zero-add (length ys))

  -- two regions that do not overlap, in either order
  pub splice_swap : (a b : ℕ) (ys zs xs : List A) → a + length ys ≤ b → b + length zs ≤ length xs → splice b zs (splice a ys xs) ≡ splice a ys (splice b zs xs)
  splice_swap zero b [] zs xs h k = rw (splice-none 0 xs, splice-none 0 (splice b zs xs))
  splice_swap zero zero (y ∷ ys) zs xs h k = absurd (omega arith)
  splice_swap zero (suc b) (y ∷ ys) zs [] h k = absurd (omega arith)
  splice_swap zero (suc b) (y ∷ ys) zs (x ∷ xs) h k =
      ap (splice (suc b) zs) (splice_cons y ys x xs) ∙ splice_suc b zs y (splice 0 ys xs)
      ∙ ap (λ (l : List A). y ∷ l) (splice_swap zero b ys zs xs (omega arith) (omega arith))
      ∙ sym (splice_cons y ys x (splice b zs xs)) ∙ ap (splice 0 (y ∷ ys)) (sym (splice_suc b zs x xs))
  splice_swap (suc a) zero ys zs xs h k = absurd (omega arith)
  splice_swap (suc a) (suc b) ys zs [] h k = absurd (omega arith)
  splice_swap (suc a) (suc b) ys zs (x ∷ xs) h k =
      ap (splice (suc b) zs) (splice_suc a ys x xs) ∙ splice_suc b zs x (splice a ys xs)
      ∙ ap (λ (l : List A). x ∷ l) (splice_swap a b ys zs xs (omega arith) (omega arith))
      ∙ sym (splice_suc a ys x (splice b zs xs)) ∙ ap (splice (suc a) ys) (sym (splice_suc b zs x xs))

  -- an output that is written from its front
  pub splice_front : (ys xs : List A) → splice 0 ys xs ≡ ys ++ drop (length ys) xs
  unfolding splice
  splice_front ys xs = rw zero-add

  -- a part of a region written: the region with that part written
  pub splice-within : (a k : ℕ) (ys zs xs : List A) → k + length ys ≤ length zs → a + length zs ≤ length xs → splice (a + k) ys (splice a zs xs) ≡ splice a (splice k ys zs) xs
  unfolding splice
  splice-within a k ys zs xs h l =
      let n = k + length ys in
      let rest = drop (a + length zs) xs in
      let la : length (take a xs) ≡ a = length-take a xs ∙ omega arith in
      let p : take (a + k) (splice a zs xs) ≡ take a xs ++ take k zs = take_splice_in a k zs xs (omega arith) (omega arith) in
      let e : a + k + length ys ≡ length (take a xs) + n = omega (arith, la) in
      let d : drop (a + k + length ys) (splice a zs xs) ≡ drop n zs ++ rest =
      ap (λ (i : ℕ). drop i (splice a zs xs)) e ∙ drop-append-add (take a xs) (zs ++ rest) n ∙ drop-append-le n zs rest h in
      let m : length (splice k ys zs) ≡ length zs = length_splice k ys zs h in
      ap₂ (λ (f g : List A). f ++ (ys ++ g)) p d
      ∙ append_assoc (take a xs) (take k zs) (ys ++ (drop n zs ++ rest))
      ∙ ap (λ (u : List A). take a xs ++ (take k zs ++ u)) (sym (append_assoc ys (drop n zs) rest))
      ∙ ap (λ (u : List A). take a xs ++ u) (sym (append_assoc (take k zs) (ys ++ drop n zs) rest))
      ∙ ap (λ (i : ℕ). take a xs ++ (splice k ys zs ++ drop (a + i) xs)) (sym m)
