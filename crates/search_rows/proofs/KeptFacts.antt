-- Records kept where there is room for them, made in arrays of their own, and standing 16 bytes apart.
use Prim.Native.Nat.{ℕ, zero, suc, ◌+◌, ◌*◌, ◌≤◌, ◌<◌}
use mathlib.Core.Path.{◌≡◌, refl, sym, ap, ◌∙◌, subst}
use mathlib.Core.Logic.{◌⊎◌, inl, inr}
use mathlib.Core.Bool.{Bool, true, false}
use mathlib.Core.Option.{some, some-injective}
use mathlib.Core.List.{List, [], ◌∷◌, ◌++◌, append-nil}
use native.Mathlib.Omega.{arith}
use native.Mathlib.Nat.{add-zero}
use lib.Dec.{ltb}
use lib.ListN.{length, drop, replicate, get_elem?, length-replicate, replicate-append-replicate}
use lib.Seq.{drop_at}
use borrow.Author.Tests.{lt-ltb, le-ltb}
use Rattle.automata.specs.Lists.{if}
use Rattle.automata.proofs.TestFacts
use Rattle.automata.proofs.ListFacts
use Rattle.automata.specs.Layout.{step_size}
use Rattle.table.specs.Region.{part, splice}
use Rattle.table.proofs.RegionFacts.{length_splice, splice_front, part-splice_in, part-splice_before}
use Rattle.search_rows.specs.Kept.{stored_within}

-- a record that there is room for, and one that there is none for
pub kept_put : (at room number : ℕ) (bytes w v : List ℕ) → number < room → v ≡ splice (at + step_size * number) bytes w → v ≡ stored_within at room number bytes w
unfolding stored_within
kept_put at room number bytes w v h k = rw (lt-ltb number room h) k

pub kept_left : (at room number : ℕ) (bytes w : List ℕ) → room ≤ number → w ≡ stored_within at room number bytes w
unfolding stored_within
kept_left at room number bytes w h = rw (le-ltb number room h)

-- by whether there is room
module _ (at room number : ℕ) (bytes w v : List ℕ) (k : v ≡ stored_within at room number bytes w) where
  pub kept_cases : (P : List ℕ → Type 0) → (number < room → P (splice (at + step_size * number) bytes w)) → (room ≤ number → P w) → P v
  unfolding stored_within
  kept_cases P f g = go (ltb number room) refl
    where
      go : (b : Bool) → ltb number room ≡ b → P v
      go true t = subst P (sym (k ∙ ap (λ (b : Bool). if b (splice (at + step_size * number) bytes w) w) t)) (f (TestFacts.ltb_true t))
      go false t = subst P (sym (k ∙ ap (λ (b : Bool). if b (splice (at + step_size * number) bytes w) w) t)) (g (TestFacts.ltb_false t))

  pub kept_length : length bytes ≤ step_size → at + step_size * room ≤ length w → length v ≡ length w
  kept_length n h = kept_cases (λ u. length u ≡ length w) (λ l. length_splice (at + step_size * number) bytes w (omega (arith, n))) (λ l. refl)

-- ---- a record made in an array of its own

-- written at the front of zeros, with zeros behind it
pub front_made : (n k : ℕ) (bytes r : List ℕ) → length bytes ≡ n → r ≡ splice 0 bytes (replicate (n + k) 0) → r ≡ bytes ++ replicate k 0
front_made n k bytes r l e =
    let z : drop {A = ℕ} n (replicate (n + k) 0) ≡ replicate k 0 = ap (drop n) (sym (replicate-append-replicate n k 0)) ∙ drop_at (replicate n 0) (replicate k 0) n (length-replicate n 0) in
    e ∙ splice_front bytes (replicate (n + k) 0) ∙ ap (λ (m : ℕ). bytes ++ drop {A = ℕ} m (replicate (n + k) 0)) l ∙ ap (λ (y : List ℕ). bytes ++ y) z

-- with none behind it, what is kept is the record
pub kept_made : (n at room number : ℕ) (bytes r w v : List ℕ) → length bytes ≡ n → r ≡ splice 0 bytes (replicate n 0) → v ≡ stored_within at room number r w
    → v ≡ stored_within at room number bytes w
kept_made n at room number bytes r w v l e k =
    let q : r ≡ bytes = front_made n 0 bytes r l (e ∙ ap (λ (m : ℕ). splice 0 bytes (replicate m 0)) (sym (add-zero n))) ∙ append-nil bytes in
    k ∙ ap (λ (z : List ℕ). stored_within at room number z w) q

-- the front of what was written at a place
pub part-start : (at n : ℕ) (r w : List ℕ) → n ≤ length r → at + length r ≤ length w → part at n (splice at r w) ≡ part 0 n r
part-start at n r w h k = ap (λ (m : ℕ). part m n (splice at r w)) (sym (add-zero at)) ∙ part-splice_in 0 n at r w (omega arith) k

-- ---- records that stand 16 bytes apart

-- a place of a list with one element more: an old one, or the last
snoc_place : {A : Type 0} (xs : List A) (y : A) (j : ℕ) (x : A) → get_elem? (xs ++ (y ∷ [])) j ≡ some x → (get_elem? xs j ≡ some x) ⊎ ((j ≡ length xs) × (y ≡ x))
snoc_place [] y zero x e = inr (refl, some-injective y x e)
snoc_place [] y (suc j) x e = ListFacts.none_not_some refl e
snoc_place (z ∷ xs) y zero x e = inl e
snoc_place (z ∷ xs) y (suc j) x e = elim (snoc_place xs y j x e) [ inl p ↦ inl p | inr p ↦ inr (ap suc p.0, p.1) ]

module _ {X : Type 0} where
  -- where R says that the record of an element stands at a place: those of xs stand in w from place at on, as far as
  -- there is room
  abbrev pub Stand : (X → ℕ → List ℕ → Type 0) → ℕ → ℕ → List X → List ℕ → Type 0
  Stand R at room xs w = (j : ℕ) (x : X) → j < room → get_elem? xs j ≡ some x → R x (at + step_size * j) w

  -- what R says of w, S says of every v with the same 16 bytes from the place on
  abbrev pub Keeps : (X → ℕ → List ℕ → Type 0) → (X → ℕ → List ℕ → Type 0) → Type 0
  Keeps R S = (x : X) (a : ℕ) (w v : List ℕ) → ((b n : ℕ) → a ≤ b → b + n ≤ a + step_size → part b n v ≡ part b n w) → R x a w → S x a v

  -- no records
  pub stand_none : (R : X → ℕ → List ℕ → Type 0) (at room : ℕ) (w : List ℕ) → Stand R at room [] w
  stand_none R at room w j x l e = ListFacts.none_not_some refl e

  -- records in bytes that were kept
  pub stand_kept : (R S : X → ℕ → List ℕ → Type 0) → Keeps R S → (at room : ℕ) (xs : List X) (w v : List ℕ) → ((a n : ℕ) → at ≤ a → part a n v ≡ part a n w)
      → Stand R at room xs w → Stand S at room xs v
  stand_kept R S f at room xs w v k h j x jr e = f x (at + step_size * j) w v (λ b n l r. k b n (omega arith)) (h j x jr e)

  -- one record more, written behind them
  pub stand_more : (R : X → ℕ → List ℕ → Type 0) → Keeps R R → (at room : ℕ) (xs : List X) (x : X) (bytes w : List ℕ) → length bytes ≤ step_size → length xs < room
      → at + step_size * room ≤ length w → R x (at + step_size * length xs) (splice (at + step_size * length xs) bytes w) → Stand R at room xs w
      → Stand R at room (xs ++ (x ∷ [])) (splice (at + step_size * length xs) bytes w)
  stand_more R f at room xs x bytes w n l h r k j y jr g = go (snoc_place xs x j y g)
    where
      place : ℕ
      place = at + step_size * length xs

      go : (get_elem? xs j ≡ some y) ⊎ ((j ≡ length xs) × (x ≡ y)) → R y (at + step_size * j) (splice place bytes w)
      go (inl p) =
          let b : j < length xs = ListFacts.place_bound xs j p in
          f y (at + step_size * j) w (splice place bytes w) (λ a i q z. part-splice_before a i place bytes w (omega arith) (omega (arith, n))) (k j y jr p)
      go (inr p) = subst (λ (z : X). R z (at + step_size * j) (splice place bytes w)) p.1 (subst (λ (i : ℕ). R x (at + step_size * i) (splice place bytes w)) (sym p.0) r)

  -- records past the room are not looked at
  pub stand_beyond : (R : X → ℕ → List ℕ → Type 0) (at room : ℕ) (xs more : List X) (w : List ℕ) → room ≤ length xs → Stand R at room xs w → Stand R at room (xs ++ more) w
  stand_beyond R at room xs more w l h j x jr e =
      let p = ListFacts.place_exists xs j (omega arith) in
      h j x jr (p.1 ∙ sym (ListFacts.place_append xs more j p.1) ∙ e)
