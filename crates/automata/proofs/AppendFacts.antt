-- Lists joined: what tests, filters and numbers make of them; a list and one element more; a list that begins with
-- another.
use mathlib.Core.Path.{◌≡◌, refl, sym, ◌∙◌, ap}
use mathlib.Core.Bool.{Bool, true, false}
use mathlib.Core.Option.{Option, none, some}
use mathlib.Core.List.{List, [], ◌∷◌, ◌++◌, append_assoc, append-nil}
use Prim.Native.Nat.{ℕ, zero, suc, ◌+◌, ◌≤◌, ◌<◌}
use native.Mathlib.Omega.{arith}
use lib.ListN.{length, take, drop, get_elem?, length-append, take-append-drop}
use lib.Seq.{take-append-le}
use Rattle.automata.specs.Lists.{if, or, any, filter, concat, numbered, cons_maybe, map_maybe}
use Rattle.automata.proofs.ListFacts

-- either of three tests
or_assoc : (a b c : Bool) → or (or a b) c ≡ or a (or b c)
or_assoc true b c = refl
or_assoc false b c = refl

-- either of a test and one that fails
pub or-none : (a : Bool) → or a false ≡ a
or-none true = refl
or-none false = refl

module _ {A : Type 0} where
  -- some element of two lists passes
  pub any_append : (p : A → Bool) (xs ys : List A) → any p (xs ++ ys) ≡ or (any p xs) (any p ys)
  any_append p [] ys = refl
  any_append p (x ∷ xs) ys = rw (any_append p xs ys) (sym (or_assoc (p x) (any p xs) (any p ys)))

  -- some element of a list and one more passes
  pub any_snoc : (p : A → Bool) (xs : List A) (x : A) → any p (xs ++ (x ∷ [])) ≡ or (any p xs) (p x)
  any_snoc p xs x = any_append p xs (x ∷ []) ∙ ap (or (any p xs)) (or-none (p x))

  -- the elements of two lists that pass
  pub filter_append : (p : A → Bool) (xs ys : List A) → filter p (xs ++ ys) ≡ filter p xs ++ filter p ys
  filter_append p [] ys = refl
  filter_append p (x ∷ xs) ys = rw (filter_append p xs ys) (go (p x))
    where
      go : (b : Bool) → if b (x ∷ (filter p xs ++ filter p ys)) (filter p xs ++ filter p ys) ≡ if b (x ∷ filter p xs) (filter p xs) ++ filter p ys
      go true = refl
      go false = refl

  -- two lists of lists put together
  pub concat_append : (xs ys : List (List A)) → concat (xs ++ ys) ≡ concat xs ++ concat ys
  concat_append [] ys = refl
  concat_append (x ∷ xs) ys = rw (concat_append xs ys) (sym (append_assoc x (concat xs) (concat ys)))

  -- two lists numbered on
  pub numbered_append : (k : ℕ) (xs ys : List A) → numbered k (xs ++ ys) ≡ numbered k xs ++ numbered (k + length xs) ys
  numbered_append k [] ys = let z : k + zero ≡ k = omega arith in ap (λ (n : ℕ). numbered n ys) (sym z)
  numbered_append k (x ∷ xs) ys =
      let z : suc k + length xs ≡ k + suc (length xs) = omega arith in
      ap {B = List (ℕ × A)} (λ r. (k, x) ∷ r)
      (numbered_append (suc k) xs ys ∙ ap (λ (n : ℕ). numbered (suc k) xs ++ numbered n ys) z)

  -- one element more of a list that has it
  pub take_place : (xs : List A) (i : ℕ) {a : A} → get_elem? xs i ≡ some a → take (suc i) xs ≡ take i xs ++ (a ∷ [])
  take_place [] i e = ListFacts.none_not_some refl e
  take_place (x ∷ xs) zero {a} e = let q : x ≡ a = cc in ap (λ (y : A). y ∷ []) q
  take_place (x ∷ xs) (suc i) e = ap {B = List A} (λ r. x ∷ r) (take_place xs i e)

  -- and its number
  pub numbered-place : (xs : List A) (i : ℕ) {a : A} → get_elem? xs i ≡ some a
      → numbered zero (take (suc i) xs) ≡ numbered zero (take i xs) ++ ((i, a) ∷ [])
  numbered-place xs i {a} e =
      let l : i < length xs = ListFacts.place_bound xs i e in
      let n : zero + length (take i xs) ≡ i = short xs i (omega arith) in
      ap (numbered zero) (take_place xs i e) ∙ numbered_append zero (take i xs) (a ∷ [])
      ∙ ap (λ (k : ℕ). numbered zero (take i xs) ++ ((k, a) ∷ [])) n
    where
      short : (ys : List A) (j : ℕ) → j ≤ length ys → zero + length (take j ys) ≡ j
      short ys zero h = omega arith
      short [] (suc j) h = absurd (omega arith)
      short (y ∷ ys) (suc j) h = let r = short ys j (omega arith) in omega arith

module _ {A B : Type 0} where
  -- the values of two lists that are there
  pub map_maybe_append : (f : A → Option B) (xs ys : List A) → map_maybe f (xs ++ ys) ≡ map_maybe f xs ++ map_maybe f ys
  map_maybe_append f [] ys = refl
  map_maybe_append f (x ∷ xs) ys = rw (map_maybe_append f xs ys) (go (f x))
    where
      go : (o : Option B) → cons_maybe o (map_maybe f xs ++ map_maybe f ys) ≡ cons_maybe o (map_maybe f xs) ++ map_maybe f ys
      go none = refl
      go (some y) = refl

-- ---- a list that begins with another

-- ys is xs and what comes behind
pub record Begins {A : Type 0} (xs ys : List A) : Type 0 where
  pub rest : List A
  pub joined : ys ≡ xs ++ rest

module _ {A : Type 0} where
  -- every list begins with itself
  pub begins_self : (xs : List A) → Begins xs xs
  begins_self xs = record { rest = []; joined = sym (append-nil xs) }

  -- what begins with a list begins with what that begins with
  pub begins_on : {xs ys zs : List A} → Begins xs ys → Begins ys zs → Begins xs zs
  begins_on {xs} b c =
      record { rest = b.rest ++ c.rest; joined = c.joined ∙ ap (λ (l : List A). l ++ c.rest) b.joined ∙ append_assoc xs b.rest c.rest }

  -- the longer list is no shorter
  pub begins_length : {xs ys : List A} → Begins xs ys → length xs ≤ length ys
  begins_length {xs} b = let l = ap length b.joined ∙ length-append xs b.rest in omega arith

  -- what stands at a place stands there in the longer list
  pub begins-place : {xs ys : List A} → Begins xs ys → (i : ℕ) {a : A} → get_elem? xs i ≡ some a → get_elem? ys i ≡ some a
  begins-place {xs} b i h = ap (λ (l : List A). get_elem? l i) b.joined ∙ ListFacts.place_append xs b.rest i h

  -- the first elements are those of the longer list
  pub begins_take : {xs ys : List A} → Begins xs ys → (i : ℕ) → i ≤ length xs → take i ys ≡ take i xs
  begins_take {xs} b i h = ap (take i) b.joined ∙ take-append-le i xs b.rest h

-- ---- the values of numbered elements, by the first elements

module _ {A B : Type 0} (f : ℕ × A → Option B) (xs : List A) (j : ℕ) where
  -- one element more
  pub first_values_suc : {a : A} → get_elem? xs j ≡ some a
      → map_maybe f (numbered zero (take (suc j) xs)) ≡ map_maybe f (numbered zero (take j xs)) ++ cons_maybe (f (j, a)) []
  first_values_suc {a} e = ap (map_maybe f) (numbered-place xs j e) ∙ map_maybe_append f (numbered zero (take j xs)) ((j, a) ∷ [])

  -- they come first
  pub first_values_begin : Begins (map_maybe f (numbered zero (take j xs))) (map_maybe f (numbered zero xs))
  first_values_begin = record {
    rest = map_maybe f (numbered (zero + length (take j xs)) (drop j xs));
    joined = ap (λ (l : List A). map_maybe f (numbered zero l)) (sym (take-append-drop j xs))
        ∙ ap (map_maybe f) (numbered_append zero (take j xs) (drop j xs))
        ∙ map_maybe_append f (numbered zero (take j xs)) (numbered (zero + length (take j xs)) (drop j xs));
  }
