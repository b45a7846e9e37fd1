-- Facts of lists of numbers in a loop: what the rest of a list says of the whole.
use Prim.Native.Nat.{ℕ, ◌+◌, ◌-◌, ◌*◌, ◌≤◌, ◌<◌}
use mathlib.Core.Path.{◌≡◌, refl, sym, ap, ◌∙◌}
use mathlib.Core.Bool.{Bool, true, false}
use mathlib.Core.List.{List, [], ◌∷◌, ◌++◌}
use native.Mathlib.Omega.{arith}
use native.Mathlib.Numerals.{add-one}
use lib.Dec.{eqb}
use lib.ListN.{length, get_or, take, drop, replicate, length-drop, length-replicate}
use lib.Seq.{drop-cons, take_all}
use Rattle.std.proofs.Common.{◌||◌}
use Rattle.std.specs.List.{list_any}
use Rattle.std.proofs.lemmas.Bool.Decides.{nat_tests}
use Rattle.automata.specs.Lists.{or, any}
use Rattle.automata.specs.IntersectCall.{distinct}
use Rattle.table.specs.Region.{splice}
use Rattle.table.proofs.RegionFacts.{take_splice_in, length_splice, splice_front}
use lib.Seq.{take-append-le}

-- the rest of a list from a place: the element there and the rest behind it
from_here : (l : List ℕ) (i : ℕ) → i < length l → drop i l ≡ get_or l i 0 ∷ drop (i + 1) l
from_here l i h = drop-cons l i 0 h ∙ rw (add-one i)

-- ---- a number that stands twice
-- what is asked of each number behind, the number there first or last
any_flipped : (k : ℕ) (l : List ℕ) → list_any (λ y. eqb y k) l ≡ any (eqb k) l
any_flipped k [] = refl
any_flipped k (x ∷ l) = rw (flipped x k, any_flipped k l) (go (eqb k x) (any (eqb k) l))
  where
    flipped : (x k : ℕ) → eqb x k ≡ eqb k x
    flipped x k = grind (arith, nat_tests)

    go : (a b : Bool) → (a || b) ≡ or a b
    go true b = refl
    go false b = refl

rest : (i : ℕ) (l : List ℕ) → take (length l - i) (drop i l) ≡ drop i l
rest i l = take_all (length l - i) (drop i l) (simp length-drop (omega arith))

module _ (i : ℕ) (l : List ℕ) (h : i < length l) (r : Bool) (e : r ≡ list_any (λ y. eqb y (get_or l i 0)) (take (length l - (i + 1)) (drop (i + 1) l))) where
  asked : r ≡ any (eqb (get_or l i 0)) (drop (i + 1) l)
  asked = e ∙ any_flipped (get_or l i 0) (take (length l - (i + 1)) (drop (i + 1) l)) ∙ ap (any (eqb (get_or l i 0))) (rest (i + 1) l)

  pub distinct-twice : r ≡ true → distinct (drop i l) ≡ false
  distinct-twice t = let a : any (eqb (get_or l i 0)) (drop (i + 1) l) ≡ true = sym asked ∙ t in ap distinct (from_here l i h) ∙ rw a

  pub distinct-later : r ≡ false → distinct (drop (i + 1) l) ≡ distinct (drop i l)
  distinct-later t = let a : any (eqb (get_or l i 0)) (drop (i + 1) l) ≡ false = sym asked ∙ t in sym (ap distinct (from_here l i h) ∙ rw a)

-- ---- two lists of four, the second written behind the first n of the first
pub joined_is : (n : ℕ) (xs ys a b : List ℕ) → n ≤ 4 → length xs ≡ 4 → length ys ≡ 4 → a ≡ splice 0 xs (replicate 8 0) → b ≡ splice n ys a
    → take (2 * n) b ≡ take n xs ++ take n ys
joined_is n xs ys a b hn lx ly e f =
    let z : length {A = ℕ} (replicate 8 0) ≡ 8 = length-replicate {A = ℕ} 8 0 in
    let la : length a ≡ 8 = ap length e ∙ length_splice 0 xs (replicate 8 0) (omega arith) ∙ z in
    let t : take n a ≡ take n xs = ap (take n) (e ∙ splice_front xs (replicate 8 0)) ∙ take-append-le n xs (drop (length xs) (replicate 8 0)) (omega arith) in
    let d : 2 * n ≡ n + n = omega arith in
    ap (λ (k : ℕ). take k b) d ∙ ap (take (n + n)) f ∙ take_splice_in n n ys a (omega arith) (omega arith) ∙ ap (λ (w : List ℕ). w ++ take n ys) t

-- ---- two lists that are cut to n, and then asked together
pub both-distinct : (n : ℕ) (fs ss xs ys : List ℕ) → take n fs ≡ xs → take n ss ≡ ys → (b : List ℕ) (r : Bool) → take (2 * n) b ≡ take n fs ++ take n ss
    → r ≡ distinct (take (2 * n) b) → r ≡ distinct (xs ++ ys)
both-distinct n fs ss xs ys e f b r t d = d ∙ ap distinct t ∙ rw (e, f)
