-- Facts of bytes that are tested all at once, as the number that they stand for: the highest bit of each byte, after
-- the same number was added to every byte, tells whether the byte is at least a threshold.
use mathlib.Core.Path.{◌≡◌, refl, sym, ap, ap₂, ◌∙◌}
use mathlib.Core.Bool.{Bool, true, false}
use mathlib.Core.List.{List, [], ◌∷◌}
use Prim.Native.Nat.{ℕ, zero, suc, ◌+◌, ◌*◌, ◌/◌, ◌≤◌, ◌<◌, ◌^◌}
use native.Mathlib.Omega.{arith}
use native.Mathlib.Nat.{mod-eq_of_lt, mul_comm}
use lib.Bits.{bit_and, and_block, and_high}
use lib.Dec.{leb}
use lib.ListN.{length, take, drop, get_or, replicate}
use borrow.Author.Tests.{le-leb, leb-true, leb-false}
use Rattle.automata.specs.Lists.{all}
use Rattle.automata.specs.Symbols.{is_symbol}
use Rattle.automata.specs.Memory.{is_zero}
use Rattle.table.specs.Endian.{le}
use Rattle.table.proofs.SymbolFacts.{digit_symbol, letter_symbol}

-- the number of n bytes that are all b
abbrev pub each : ℕ → ℕ → ℕ
each n b = le (replicate n b)

-- the highest bits of n bytes, each increased by c
abbrev highs : ℕ → ℕ → ℕ → ℕ
highs n c w = bit_and (w + each n c) (each n 128)

-- the lowest byte and the others
and_byte : (x X h H : ℕ) → x < 256 → h < 256 → bit_and (x + 256 * X) (h + 256 * H) ≡ bit_and x h + 256 * bit_and X H
and_byte x X h H p q =
    let a : x + 256 * X ≡ X * 2 ^ 8 + x = omega arith in
    let b : h + 256 * H ≡ H * 2 ^ 8 + h = omega arith in
    let c : bit_and X H * 2 ^ 8 + bit_and x h ≡ bit_and x h + 256 * bit_and X H = omega arith in
    ap₂ bit_and a b ∙ and_block 8 X H x h p q ∙ c

-- the highest bit of a byte
top_bit : (x : ℕ) → x < 256 → bit_and x 128 ≡ 128 * (x / 128)
top_bit x h =
    let s : x / 128 < 2 = omega arith in
    and_high x 1 7 ∙ ap (λ (k : ℕ). k * 128) (mod-eq_of_lt s) ∙ mul_comm (x / 128) 128

-- the highest bit of the lowest byte, and those of the others
highs_cons : (n c x X : ℕ) → x + c < 256 → highs (suc n) c (x + 256 * X) ≡ 128 * ((x + c) / 128) + 256 * highs n c X
highs_cons n c x X h =
    let a : x + 256 * X + (c + 256 * each n c) ≡ (x + c) + 256 * (X + each n c) = omega arith in
    ap (λ (w : ℕ). bit_and w (128 + 256 * each n 128)) a ∙ and_byte (x + c) (X + each n c) 128 (each n 128) h (omega arith)
    ∙ ap (λ (k : ℕ). k + 256 * highs n c X) (top_bit (x + c) h)

-- the same of the bytes as they are
low_cons : (n x X : ℕ) → x < 256 → bit_and (x + 256 * X) (each (suc n) 128) ≡ 128 * (x / 128) + 256 * bit_and X (each n 128)
low_cons n x X h = and_byte x X 128 (each n 128) h (omega arith) ∙ ap (λ (k : ℕ). k + 256 * bit_and X (each n 128)) (top_bit x h)

-- bytes without their highest bit are at most 127 each
pub highs_bound : (xs : List ℕ) (n : ℕ) → length xs ≡ n → ((i : ℕ) → i < length xs → get_or xs i 0 < 256) → bit_and (le xs) (each n 128) ≡ 0 → le xs ≤ each n 127
highs_bound [] n l f e = omega arith
highs_bound (x ∷ xs) zero l f e = absurd (omega arith)
highs_bound (x ∷ xs) (suc n) l f e =
    let b : x < 256 = f 0 (omega arith) in
    let c = low_cons n x (le xs) b in
    let s : x < 128 = omega (arith, b, c, e) in
    let r = highs_bound xs n (omega arith) (λ i k. f (suc i) (omega arith)) (omega (arith, c, e)) in
    omega (arith, s, r)

-- bytes are 0 where the first n stand for 0 and the others are 0
pub zero_front : (n : ℕ) (y : List ℕ) → le (take n y) ≡ 0 → all is_zero (drop n y) ≡ true → all is_zero y ≡ true
zero_front zero y e f = f
zero_front (suc n) [] e f = refl
zero_front (suc n) (b ∷ y) e f = let z : b ≡ 0 = omega arith in rw (z, zero_front n y (omega arith) f)

-- a byte from 48 to 90 that is not between 57 and 65 is a symbol
symbol_between : (x : ℕ) → 48 ≤ x → x ≤ 90 → (58 ≤ x → 65 ≤ x) → is_symbol x ≡ true
symbol_between x a b f = go (leb x 57) refl
  where
    go : (t : Bool) → leb x 57 ≡ t → is_symbol x ≡ true
    go true e = sym (digit_symbol x a (leb-true x 57 e))
    go false e = let k : 57 < x = leb-false x 57 e in sym (letter_symbol x a k (f (omega arith))) ∙ le-leb x 90 b

-- the tests of n bytes of which m are to be symbols and the others 0: no highest bit, just the first m at least 1, just
-- these at least 48, none at least 91, and the same at least 58 as at least 65
pub record Tested (n m w : ℕ) : Type 0 where
  pub low : bit_and w (each n 128) ≡ 0
  pub used : highs n 127 w ≡ each m 128
  pub from48 : highs n 80 w ≡ each m 128
  pub below91 : highs n 37 w ≡ 0
  pub gap : highs n 70 w ≡ highs n 63 w

-- two numbers with the highest bit of the lowest byte are the same in that bit and in the others
same_bit : (p q A B : ℕ) → p ≤ 1 → q ≤ 1 → 128 * p + 256 * A ≡ 128 * q + 256 * B → (p ≡ q) × (A ≡ B)
same_bit zero zero A B h k e = (refl, omega arith)
same_bit zero (suc zero) A B h k e = absurd (omega arith)
same_bit (suc zero) zero A B h k e = absurd (omega arith)
same_bit (suc zero) (suc zero) A B h k e = (refl, omega arith)
same_bit (suc (suc p)) q A B h k e = absurd (omega arith)
same_bit zero (suc (suc q)) A B h k e = absurd (omega arith)
same_bit (suc zero) (suc (suc q)) A B h k e = absurd (omega arith)

-- ---- the lowest byte of those tested, and the others
module _ (n x X m : ℕ) (h : x < 256) (t : Tested (suc n) m (x + 256 * X)) where
  -- the lowest byte has no highest bit
  tested_low : x < 128
  tested_low = omega (arith, low_cons n x X h, t.low)

  -- its highest bit after c was added, and those of the others
  tested_high : (c : ℕ) → c < 128 → (highs (suc n) c (x + 256 * X) ≡ 128 * ((x + c) / 128) + 256 * highs n c X) × ((x + c) / 128 ≤ 1)
  tested_high c k = let s = tested_low in (highs_cons n c x X (omega (arith, s, k)), omega (arith, s, k))

  -- just what is at least 58 is at least 65
  tested_gap : ((x + 70) / 128 ≡ (x + 63) / 128) × (highs n 70 X ≡ highs n 63 X)
  tested_gap =
      let a = tested_high 70 (omega arith) in
      let b = tested_high 63 (omega arith) in
      same_bit ((x + 70) / 128) ((x + 63) / 128) (highs n 70 X) (highs n 63 X) a.1 b.1 (sym a.0 ∙ t.gap ∙ b.0)

  -- the others are tested for one place less
  tested_rest : (k : ℕ) → highs n 127 X ≡ each k 128 → highs n 80 X ≡ each k 128 → Tested n k X
  tested_rest k u v = record {
    low = omega (arith, low_cons n x X h, t.low);
    used = u;
    from48 = v;
    below91 = omega (arith, (tested_high 37 (omega arith)).0, t.below91);
    gap = tested_gap.1;
  }

-- past the symbols the lowest byte is 0
tested_zero : (n x X : ℕ) → x < 256 → Tested (suc n) 0 (x + 256 * X) → (x ≡ 0) × Tested n 0 X
tested_zero n x X h t =
    let a = tested_high n x X 0 h t 127 (omega arith) in
    let b = tested_high n x X 0 h t 80 (omega arith) in
    (omega (arith, a.0, t.used), tested_rest n x X 0 h t 0 (omega (arith, a.0, t.used)) (omega (arith, b.0, t.from48)))

-- among them it is a symbol
tested_symbol : (n x X m : ℕ) → x < 256 → Tested (suc n) (suc m) (x + 256 * X) → (is_symbol x ≡ true) × Tested n m X
tested_symbol n x X m h t =
    let a = tested_high n x X (suc m) h t 127 (omega arith) in
    let b = tested_high n x X (suc m) h t 80 (omega arith) in
    let c = tested_high n x X (suc m) h t 37 (omega arith) in
    let u = same_bit ((x + 127) / 128) 1 (highs n 127 X) (each m 128) a.1 (omega arith) (sym a.0 ∙ t.used) in
    let v = same_bit ((x + 80) / 128) 1 (highs n 80 X) (each m 128) b.1 (omega arith) (sym b.0 ∙ t.from48) in
    let w = (tested_gap n x X (suc m) h t).0 in
    let p : 48 ≤ x = omega (arith, v.0) in
    let q : x ≤ 90 = omega (arith, c.0, t.below91) in
    let g : 58 ≤ x → 65 ≤ x = λ k. omega (arith, w, k, q) in
    (symbol_between x p q g, tested_rest n x X (suc m) h t m u.1 v.1)

-- bytes that pass are such
pub tested-bytes : (xs : List ℕ) (n m : ℕ) → length xs ≡ n → m ≤ n → ((i : ℕ) → i < length xs → get_or xs i 0 < 256) → Tested n m (le xs)
    → (all is_symbol (take m xs) ≡ true) × (all is_zero (drop m xs) ≡ true)
tested-bytes [] n zero l h f t = (refl, refl)
tested-bytes [] n (suc m) l h f t = absurd (omega arith)
tested-bytes (x ∷ xs) zero m l h f t = absurd (omega arith)
tested-bytes (x ∷ xs) (suc n) zero l h f t =
    let s = tested_zero n x (le xs) (f 0 (omega arith)) t in
    let r = tested-bytes xs n zero (omega arith) (omega arith) (λ i k. f (suc i) (omega arith)) s.1 in
    (refl, rw (s.0, r.1))
tested-bytes (x ∷ xs) (suc n) (suc m) l h f t =
    let s = tested_symbol n x (le xs) m (f 0 (omega arith)) t in
    let r = tested-bytes xs n m (omega arith) (omega arith) (λ i k. f (suc i) (omega arith)) s.1 in
    (rw (s.0, r.0), r.1)
