-- Facts of the combinations of positions in the strings of a tuple: as a product, and by the strings' places.
use mathlib.Core.Path.{◌≡◌, refl, sym, ap, ap₂, ◌∙◌}
use mathlib.Core.List.{List, [], ◌∷◌}
use Prim.Native.Nat.{ℕ, suc, ◌+◌, ◌*◌, ◌^◌, ◌≤◌, ◌<◌}
use native.Mathlib.Omega.{arith}
use native.Mathlib.Nat.{mul-le-mul, mul-le-mul_left, mul_assoc, mul-one, pow-suc}
use native.Mathlib.Numerals.{add-one}
use lib.ListN.{length, get_or, drop, drop_of_length-le}
use lib.Seq.{drop-cons}
use Rattle.automata.specs.Automaton.{Tuple}
use Rattle.automata.specs.Calls.Work.{combinations}
use Rattle.automata.specs.Limits.{max_string}
use Rattle.lookup_tuple.specs.declared.Strings.{Strings}
use Rattle.lookup_tuple.specs.Strings.{Stands}
use Rattle.lookup_tuple.specs.Positions.{positions, ShortStrings}

-- ---- the product, length by length

-- there is one combination at least
positions_pos : (ls : List ℕ) → 1 ≤ positions ls
positions_pos [] = omega arith
positions_pos (n ∷ ls) =
    let a : 1 ≤ suc n = omega arith in
    let p : 1 * 1 ≤ suc n * positions ls = mul-le-mul a (positions_pos ls) in
    omega (arith, p)

-- and there are not too many
positions-small : (ls : List ℕ) → ((h : ℕ) → get_or ls h 0 ≤ max_string) → positions ls ≤ 65 ^ length ls
positions-small [] f = omega arith
positions-small (n ∷ ls) f =
    let k : suc n ≤ 65 = omega (arith, f 0) in
    let p : suc n * positions ls ≤ 65 * 65 ^ length ls = mul-le-mul k (positions-small ls (λ h. f (suc h))) in
    omega (arith, p, pow-suc 65 (length ls))

module _ (ls : List ℕ) (i all : ℕ) (e : all * positions (drop i ls) ≡ positions ls) (lt : i < length ls) where
  -- one length more
  pub positions_turn : all * (get_or ls i 0 + 1) * positions (drop (i + 1) ls) ≡ positions ls
  positions_turn =
      let d : positions (drop i ls) ≡ suc (get_or ls i 0) * positions (drop (suc i) ls) = ap positions (drop-cons ls i 0 lt) in
      let n : get_or ls i 0 + 1 ≡ suc (get_or ls i 0) = omega arith in
      ap₂ (λ (x y : ℕ). all * x * positions (drop y ls)) n (add-one i) ∙ mul_assoc all (suc (get_or ls i 0)) (positions (drop (suc i) ls))
      ∙ ap (λ (x : ℕ). all * x) (sym d) ∙ e

  -- there are few
  pub positions_fit : length ls ≡ 8 → ((h : ℕ) → get_or ls h 0 ≤ max_string) → all * (get_or ls i 0 + 1) ≤ 318644812890625
  positions_fit eight f =
      let p : all * (get_or ls i 0 + 1) * 1 ≤ all * (get_or ls i 0 + 1) * positions (drop (i + 1) ls) = mul-le-mul_left (all * (get_or ls i 0 + 1)) (positions_pos (drop (i + 1) ls)) in
      let s : positions ls ≤ 318644812890625 = (let q = positions-small ls f in rw eight at q) in
      omega (arith, p, positions_turn, s)

-- all lengths
pub positions_all : (ls : List ℕ) (i all : ℕ) → length ls ≤ i → length ls ≡ 8 → ((h : ℕ) → get_or ls h 0 ≤ max_string) → all * positions (drop i ls) ≡ positions ls
    → (all ≡ positions ls) × (all ≤ 318644812890625)
positions_all ls i all up eight f e =
    let d : positions (drop i ls) ≡ 1 = ap positions (drop_of_length-le ls up) in
    let a : all ≡ positions ls = sym (mul-one all) ∙ ap (λ (x : ℕ). all * x) (sym d) ∙ e in
    let s : positions ls ≤ 318644812890625 = (let q = positions-small ls f in rw eight at q) in
    (a, omega (arith, a, s))

-- ---- by the places of the strings

-- lengths of a tuple's strings with zeros behind them
lengths_are : (ls : List ℕ) (t : Tuple) → length t ≤ length ls → ((h : ℕ) → h < length t → get_or ls h 0 ≡ length (get_or t h [])) → ((h : ℕ) → length t ≤ h → get_or ls h 0 ≡ 0)
    → positions ls ≡ combinations t
lengths_are [] [] h f g = refl
lengths_are [] (s ∷ t) h f g = absurd (omega arith)
lengths_are (n ∷ ls) [] h f g =
    let e : n ≡ 0 = g 0 (omega arith) in
    let i : positions ls ≡ 1 = lengths_are ls [] (omega arith) (λ h k. absurd (omega arith)) (λ h k. g (suc h) (omega arith)) in
    rw (e, i)
lengths_are (n ∷ ls) (s ∷ t) h f g =
    let e : n ≡ length s = f 0 (omega arith) in
    let i : positions ls ≡ combinations t = lengths_are ls t (omega arith) (λ h k. f (suc h) (omega arith)) (λ h k. g (suc h) (omega arith)) in
    ap₂ (λ (x y : ℕ). suc x * y) e i

module _ (text : List ℕ) (t : Tuple) (s : Strings) (e : Stands text t s) where
  -- the strings of a tuple are short
  pub stands_short : ShortStrings s
  stands_short = record { eight = e.eight_lengths; short = e.short }

  -- the combinations of positions in them are those of the tuple
  pub stands_positions : positions s.lengths ≡ combinations t
  stands_positions = lengths_are s.lengths t (omega (arith, e.few, e.eight_lengths)) e.length_is e.none_past
