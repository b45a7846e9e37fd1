-- The mask of the second tapes, by its bits.
use mathlib.Core.Path.{◌≡◌, refl, sym, ap, ◌∙◌}
use mathlib.Core.Bool.{Bool, true, false}
use Prim.Native.Nat.{ℕ, zero, suc, ◌+◌, ◌*◌, ◌%◌, ◌^◌, ◌≤◌, ◌<◌}
use native.Mathlib.Omega.{arith}
use native.Mathlib.Numerals.{add-one}
use mir.Val.{bool_byte}
use Rattle.std.proofs.Math.Nat.{pow-suc, mul_assoc, mod-eq_of_lt}
use Rattle.std.proofs.lemmas.Nat.{pow_below}
use Rattle.automata.specs.Lists.{if}
use Rattle.automata.specs.Calls.Drop.{mask_bits}

-- a mark is at most 1
mark_small : (b : Bool) → if {A = ℕ} b 1 0 ≤ 1
mark_small true = omega arith
mark_small false = omega arith

-- a mark as a number
mark_is : (b : Bool) → bool_byte b ≡ if b 1 0
mark_is true = refl
mark_is false = refl

-- the bits of one more place
bits-more : (n : ℕ) (d : ℕ → Bool) → mask_bits (suc n) d ≡ mask_bits n d + if (d n) 1 0 * 2 ^ n
bits-more zero d = omega arith
bits-more (suc n) d =
    let t : ℕ = if (d (suc n)) 1 0 in
    let e : mask_bits (suc n) (λ k. d (suc k)) ≡ mask_bits n (λ k. d (suc k)) + t * 2 ^ n = bits-more n (λ k. d (suc k)) in
    let p : t * 2 ^ suc n ≡ t * 2 ^ n * 2 = ap (◌*◌ t) (pow-suc 2 n) ∙ sym (mul_assoc t (2 ^ n) 2) in
    omega (arith, e, p)

-- a bit put in behind those of the places before
pub next_bit : (d : ℕ → Bool) (mask place r : ℕ) (b : Bool) → place < 8 → r ≡ bool_byte b → b ≡ d place → mask ≡ mask_bits place d → mask < 2 ^ place
    → (mask + r * 2 ^ place % 256 ≡ mask_bits (place + 1) d) × (mask + r * 2 ^ place % 256 < 2 ^ (place + 1))
next_bit d mask place r b h e f g s =
    let m : r ≡ if (d place) 1 0 = e ∙ mark_is b ∙ ap (λ (x : Bool). if {A = ℕ} x 1 0) f in
    let n : r ≤ 1 = omega (arith, mark_small (d place)) in
    let w : 2 ^ place < 256 = pow_below place 8 h in
    let k : r * 2 ^ place ≤ 2 ^ place = go r n in
    let z : r * 2 ^ place % 256 ≡ r * 2 ^ place = mod-eq_of_lt (omega arith) in
    let q : 2 ^ (place + 1) ≡ 2 ^ place * 2 = rw add-one (pow-suc 2 place) in
    rw (z, q, add-one) (rw (bits-more place d, ← m, ← g) (refl, omega arith))
  where
    go : (x : ℕ) → x ≤ 1 → x * 2 ^ place ≤ 2 ^ place
    go zero l = omega arith
    go (suc zero) l = omega arith
    go (suc (suc x)) l = absurd (omega arith)
