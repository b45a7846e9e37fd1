-- Lists by what stands at their places, lists mapped, and lists in a strict order.
use mathlib.Core.Path.{◌≡◌, refl, sym, ◌∙◌, subst}
use mathlib.Core.Option.{some, some-injective}
use mathlib.Core.List.{List, [], ◌∷◌, map}
use Prim.Native.Nat.{ℕ, zero, suc, ◌<◌}
use native.Mathlib.Omega.{arith}
use lib.ListN.{get_elem?}
use Rattle.automata.specs.Lists.{◌∈◌, here, there, Pairwise}
use Rattle.automata.proofs.ListFacts

-- lists with the same at every place
pub same_places : {A : Type 0} (xs ys : List A) → ((k : ℕ) → get_elem? xs k ≡ get_elem? ys k) → xs ≡ ys
same_places [] [] h = refl
same_places [] (y ∷ ys) h = ListFacts.none_not_some refl (h zero)
same_places (x ∷ xs) [] h = ListFacts.none_not_some refl (sym (h zero))
same_places {A} (x ∷ xs) (y ∷ ys) h =
    let p : x ≡ y = some-injective x y (h zero) in
    let q : xs ≡ ys = same_places xs ys (λ k. h (suc k)) in
    cc

-- the only place of one element
pub only-place : {A : Type 0} (x : A) (i : ℕ) (y : A) → get_elem? (x ∷ []) i ≡ some y → (i ≡ zero) × (x ≡ y)
only-place x zero y e = (refl, some-injective x y e)
only-place x (suc i) y e = ListFacts.none_not_some refl e

-- a list mapped twice
pub map_map : {A B D : Type 0} (f : B → D) (g : A → B) (xs : List A) → map f (map g xs) ≡ map (λ x. f (g x)) xs
map_map f g [] = refl
map_map f g (x ∷ xs) = rw (map_map f g xs)

-- ---- pairwise lists

-- a pairwise list mapped
pub pairwise_map : {A B : Type 0} (R : A → A → Type 0) (Q : B → B → Type 0) (f : A → B) → ((a b : A) → R a b → Q (f a) (f b))
    → (xs : List A) → Pairwise R xs → Pairwise Q (map f xs)
pairwise_map R Q f h [] p = tt
pairwise_map {A} {B} R Q f h (x ∷ xs) p =
    ((λ y m. let (a, i, e) = ListFacts.map_members f xs m in subst (λ (z : B). Q (f x) z) (sym e) (h x a (p.0 a i))), pairwise_map R Q f h xs p.1)

-- a weaker relation
pub pairwise_weaken : {X : Type 0} (R S : X → X → Type 0) → ((x y : X) → R x y → S x y) → (xs : List X) → Pairwise R xs → Pairwise S xs
pairwise_weaken R S h [] p = tt
pairwise_weaken R S h (x ∷ xs) p = ((λ y m. h x y (p.0 y m)), pairwise_weaken R S h xs p.1)

-- a relation between places makes a list pairwise
pub by_places : {X : Type 0} (R : X → X → Type 0) (xs : List X)
    → ((i j : ℕ) (x y : X) → get_elem? xs i ≡ some x → get_elem? xs j ≡ some y → i < j → R x y) → Pairwise R xs
by_places R [] h = tt
by_places R (x ∷ xs) h =
    ((λ y m. let (j, e) = ListFacts.place xs m in h zero (suc j) x y refl e (omega arith)), by_places R xs (λ i j y z p q l. h (suc i) (suc j) y z p q (omega arith)))

-- two lists of the same members, each in a strict order, are equal
pub sorted_unique : {X : Type 0} (R : X → X → Type 0) → ((x : X) → R x x → ⊥) → ((x y z : X) → R x y → R y z → R x z)
    → (xs ys : List X) → Pairwise R xs → Pairwise R ys → ((x : X) → x ∈ xs → x ∈ ys) → ((x : X) → x ∈ ys → x ∈ xs) → xs ≡ ys
sorted_unique R irr tr [] [] px py f g = refl
sorted_unique R irr tr [] (y ∷ ys) px py f g = absurd (elim (g y (here refl)) [ ])
sorted_unique R irr tr (x ∷ xs) [] px py f g = absurd (elim (f x (here refl)) [ ])
sorted_unique {X} R irr tr (x ∷ xs) (y ∷ ys) px py f g =
    let e : x ≡ y = heads (f x (here refl)) (g y (here refl)) in
    let t : xs ≡ ys = sorted_unique R irr tr xs ys px.1 py.1
    (λ z m. tail z x y ys (sym e) (px.0 z m) (f z (there m))) (λ z m. tail z y x xs e (py.0 z m) (g z (there m))) in
    (λ i. e i ∷ t i)
  where
    heads : x ∈ (y ∷ ys) → y ∈ (x ∷ xs) → x ≡ y
    heads (here e) m = e
    heads (there m) (here e) = sym e
    heads (there m) (there n) = absurd (irr x (tr x y x (px.0 y n) (py.0 x m)))

    tail : (z u v : X) (vs : List X) → v ≡ u → R u z → z ∈ (v ∷ vs) → z ∈ vs
    tail z u v vs e r (here q) = absurd (irr u (subst (λ (w : X). R u w) (q ∙ e) r))
    tail z u v vs e r (there m) = m
