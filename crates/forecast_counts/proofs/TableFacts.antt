-- What is counted in the work space and in the arc records is what the definitions count, where they agree one by one.
use Prim.Native.Nat.{ℕ, suc, ◌+◌, ◌*◌, ◌<◌}
use mathlib.Core.Path.{◌≡◌, refl, ap₂}
use mathlib.Core.Bool.{Bool}
use mathlib.Core.Option.{some}
use mathlib.Core.List.{List, [], ◌∷◌, ◌++◌, map}
use native.Mathlib.Omega.{arith}
use lib.ListN.{length, get_elem?}
use Rattle.automata.specs.Lists.{or, any, concat, numbered}
use Rattle.automata.specs.Automaton.{Arc, label_on}
use Rattle.automata.specs.Forecast.{greatest_delay}
use Rattle.automata.specs.Layout.{arc_size, delays_size}
use Rattle.forecast_counts.specs.Counts.{both_at, both_from, greatest_of}
use Rattle.forecast_counts.specs.Symbols.{label_at, symbols_from}

-- cycles of both signs meet at some state: a test of the numbers of the states xs
pub both-any : {X : Type 0} (test : ℕ → Bool) (k at : ℕ) (xs : List X) (w : List ℕ) → ((q : ℕ) → q < length xs → both_at (at + delays_size * q) w ≡ test (k + q))
    → both_from at (length xs) w ≡ any (λ x. test x.0) (numbered k xs)
unfolding both_from
both-any test k at [] w f = refl
both-any test k at (x ∷ xs) w f =
    let a : at + delays_size * 0 ≡ at = omega arith in
    let b : k + 0 ≡ k = omega arith in
    let first : both_at at w ≡ test k = rw (a, b) at (f 0 (omega arith)) in
    ap₂ or first
    (both-any test (suc k) (at + delays_size) xs w (λ q h.
    let c : at + delays_size * suc q ≡ at + delays_size + delays_size * q = omega arith in
    let d : k + suc q ≡ suc k + q = omega arith in
    rw (c, d) at (f (suc q) (omega arith))))

-- the greatest size of a delay among the edges of arcs
pub greatest_arcs : {W : Type 0} (marks : List Bool) (i j : ℕ) (es : List (Arc W))
    → greatest_of marks (map (λ a. record { source = a.source; target = a.target; up = length (label_on i a); down = length (label_on j a) }) es) ≡ greatest_delay marks i j es
unfolding greatest_of
greatest_arcs marks i j [] = refl
greatest_arcs marks i j (a ∷ es) = rw (greatest_arcs marks i j es)

-- the symbols of all arcs xs, label by label
pub symbols_are : {X : Type 0} (first second at : ℕ) (arcs : List ℕ) (labels : X → List ℕ) (xs : List X)
    → ((k : ℕ) (x : X) → get_elem? xs k ≡ some x → label_at first (at + arc_size * k) arcs ++ label_at second (at + arc_size * k) arcs ≡ labels x)
    → symbols_from first second at (length xs) arcs ≡ concat (map labels xs)
unfolding symbols_from
symbols_are first second at arcs labels [] f = refl
symbols_are first second at arcs labels (x ∷ xs) f =
    let a : at + arc_size * 0 ≡ at = omega arith in
    let head : label_at first at arcs ++ label_at second at arcs ≡ labels x = rw a at (f 0 x refl) in
    ap₂ (λ (u v : List ℕ). u ++ v) head
    (symbols_are first second (at + arc_size) arcs labels xs (λ k y e.
    let c : at + arc_size * suc k ≡ at + arc_size + arc_size * k = omega arith in
    rw c at (f (suc k) y e)))
