-- The laws of little-endian bytes and of decimal digits, over the number of places.
use mathlib.Core.Path.{◌≡◌, refl, sym, ap}
use mathlib.Core.Logic.{◌≢◌}
use mathlib.Core.Bool.{Bool, true, false}
use mathlib.Core.List.{[]}
use Prim.Native.Nat.{ℕ, zero, suc, ◌+◌, ◌-◌, ◌*◌, ◌/◌, ◌%◌, ◌^◌, ◌≤◌, ◌<◌}
use native.Mathlib.Nat.{pow-suc, div-add-mod', mod-lt, div-lt_iff_lt-mul, one-le-pow}
use native.Mathlib.Omega.{arith}
use lib.Dec.{T, leb, ltb, eqb, leb→le, le→leb, ltb→lt, lt→ltb, eqb→eq, eqb-suc-zero, lit<}
use lib.Arith.{digits_lt, digits_div, digits_mod}
use Rattle.automata.specs.Lists.{if, and}
use Rattle.automata.specs.Answer.{ok}
use Rattle.automata.specs.Refusal.{form}
use Rattle.automata.specs.LittleEndian.{little, byte}
use Rattle.automata.specs.Format.{zero_places}
use Rattle.automata.specs.Decimal.{decimal, with_digit, leading, leading_column}
use Rattle.automata.specs.Symbols.{is_digit}
use Rattle.automata.proofs.TestFacts.{and_T, T_and, eqb_false}
use Rattle.automata.proofs.AnswerFacts.{check-ok, check_pass}
use Rattle.automata.proofs.FormatFacts.{Lawful, pair_lawful, convert_lawful, restrict_lawful, place_lawful, literal_lawful}

-- a number without its last digit, in base b
rest_lt : (b k n : ℕ) → 0 < b → n < b ^ suc k → n / b < b ^ k
rest_lt b k n p h = (div-lt_iff_lt-mul p).1 (rw (← pow-suc b k) h)

-- ---- little-endian bytes

pub byte_lawful : Lawful byte (λ b. b < 256)
byte_lawful = restrict_lawful (λ b. ltb b 256) form place_lawful (λ b h. (tt, lt→ltb b 256 h)) (λ b u t. ltb→lt b 256 t)

pub zero_places_lawful : Lawful zero_places (λ n. n < 1)
zero_places_lawful = convert_lawful (literal_lawful []) (record {
  reads = λ n h. (tt, let e : n ≡ 0 = omega arith in ap ok (sym e));
  only = λ t n u r. let e : n ≡ 0 = cc in (omega arith, refl);
})

-- the numbers below 256 to the power of k
pub little_lawful : (k : ℕ) → Lawful (little k) (λ n. n < 256 ^ k)
little_lawful zero = zero_places_lawful
little_lawful (suc k) = convert_lawful (pair_lawful byte_lawful (little_lawful k)) (record {
  reads = λ n h. ((mod-lt n (lit< tt), rest_lt 256 k n (lit< tt) h), ap ok (div-add-mod' n 256));
  only = λ p n v r.
      let e : p.1 * 256 + p.0 ≡ n = cc in
      (rw (← e, pow-suc) (digits_lt v.1 v.0), rw (← e, digits_mod p.1 v.0, digits_div p.1 v.0));
})

-- ---- decimal digits

-- the byte of a digit below 10
pub is_digit-digit : (d : ℕ) → d < 10 → T (is_digit (48 + d))
is_digit-digit d h = T_and (leb 48 (48 + d)) (leb (48 + d) 57) (le→leb 48 (48 + d) (omega arith)) (le→leb (48 + d) 57 (omega arith))

pub is_digit-range : (c : ℕ) → T (is_digit c) → (48 ≤ c) × (c ≤ 57)
is_digit-range c t = let s = and_T (leb 48 c) (leb c 57) t in (leb→le 48 c s.0, leb→le c 57 s.1)

-- a number is what stands before its last digit, with that digit
with_digit_of : (n : ℕ) → with_digit (n / 10) (48 + n % 10) ≡ n
with_digit_of n = omega (arith, div-add-mod' n 10)

module _ (n c : ℕ) (t : T (is_digit c)) where
  -- a digit makes a number of which it is the last
  value : c - 48 < 10
  value = omega (arith, is_digit-range c t)

  with_digit_before : with_digit n c / 10 ≡ n
  with_digit_before = digits_div n value

  with_digit-last : 48 + with_digit n c % 10 ≡ c
  with_digit-last = rw (digits_mod n value) (omega (arith, is_digit-range c t))

  with_digit_lt : (w : ℕ) → n < 10 ^ w → with_digit n c < 10 ^ suc w
  with_digit_lt w h = rw pow-suc (digits_lt h value)

-- the last of the leading columns is read back
leading_column_reads : (n : ℕ) → leading_column (n / 10, if (eqb n 0) 32 (48 + n % 10)) ≡ ok n
leading_column_reads zero = refl
leading_column_reads (suc n) =
    let m = suc n in
    let c = 48 + m % 10 in
    rw (eqb-suc-zero n, eqb_false c 32 (omega arith), with_digit_of m)
    (check_pass (and (is_digit c) (leb 1 m)) form m (T_and (is_digit c) (leb 1 m) (is_digit-digit (m % 10) (mod-lt m (lit< tt))) (le→leb 1 m (omega arith))))

-- and nothing else is read there
pub leading_column-only : (w : ℕ) (p : ℕ × ℕ) (n : ℕ) → p.0 < 10 ^ w → leading_column p ≡ ok n
    → (n < 10 ^ suc w) × (p ≡ (n / 10, if (eqb n 0) 32 (48 + n % 10)))
leading_column-only w p n h r = go (and (eqb p.1 32) (eqb p.0 0)) refl
  where
    go : (b : Bool) → and (eqb p.1 32) (eqb p.0 0) ≡ b → (n < 10 ^ suc w) × (p ≡ (n / 10, if (eqb n 0) 32 (48 + n % 10)))
    go true e =
        let t = and_T (eqb p.1 32) (eqb p.0 0) (rw e tt) in
        let q : n ≡ 0 = cc (rw e at r) in
        rw (q, eqb→eq p.1 32 t.0, eqb→eq p.0 0 t.1) (one-le-pow (suc w) 10 (lit< tt), refl)
    go false e =
        let v = with_digit p.0 p.1 in
        let s = check-ok (and (is_digit p.1) (leb 1 v)) form v n (rw e at r) in
        let t = and_T (is_digit p.1) (leb 1 v) s.0 in
        let q : n ≢ 0 = omega (arith, leb→le 1 v t.1, s.1) in (
          rw s.1 at (with_digit_lt p.0 p.1 t.0 w h),
          rw (eqb_false n 0 q, ← s.1, with_digit_before p.0 p.1 t.0, with_digit-last p.0 p.1 t.0),
        )

-- the numbers of at most w digits
pub leading_lawful : (w : ℕ) → Lawful (leading w) (λ n. n < 10 ^ w)
leading_lawful zero = zero_places_lawful
leading_lawful (suc w) = convert_lawful (pair_lawful (leading_lawful w) place_lawful) (record {
  reads = λ n h. ((rest_lt 10 w n (lit< tt) h, tt), leading_column_reads n);
  only = λ p n v r. leading_column-only w p n v.0 r;
})

pub decimal_lawful : (w : ℕ) → Lawful (decimal w) (λ n. n < 10 ^ w)
decimal_lawful zero = zero_places_lawful
decimal_lawful (suc w) = convert_lawful (pair_lawful (leading_lawful w) place_lawful) (record {
  reads = λ n h. ((rest_lt 10 w n (lit< tt) h, tt), rw (with_digit_of n) (check_pass (is_digit (48 + n % 10)) form n (is_digit-digit (n % 10) (mod-lt n (lit< tt)))));
  only = λ p n v r.
      let s = check-ok (is_digit p.1) form (with_digit p.0 p.1) n r in (
        rw s.1 at (with_digit_lt p.0 p.1 s.0 w v.0),
        rw (← s.1, with_digit_before p.0 p.1 s.0, with_digit-last p.0 p.1 s.0),
      );
})
