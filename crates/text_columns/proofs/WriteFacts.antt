-- Facts of decimal numbers that are written from the right.
use mathlib.Core.Path.{◌≡◌, refl, sym, ap, ◌∙◌}
use mathlib.Core.List.{List, [], ◌∷◌, ◌++◌}
use Prim.Native.Nat.{ℕ, zero, suc, ◌+◌, ◌-◌, ◌/◌, ◌%◌, ◌≤◌, ◌<◌}
use native.Mathlib.Omega.{arith}
use native.Mathlib.Numerals.{add-one}
use lib.ListN.{length, set, length-append}
use Rattle.table.specs.Region.{splice}
use Rattle.table.proofs.RegionFacts.{splice-none, one_store, splice_swap, splice_append, splice_snoc}
use Rattle.text_columns.specs.Columns.{decimal_text, leading_text, leading_byte}

pub length_leading : (w n : ℕ) → length (leading_text w n) ≡ w
unfolding leading_text
length_leading zero n = refl
length_leading (suc w) n = length-append (leading_text w (n / 10)) (leading_byte n ∷ []) ∙ rw (length_leading w (n / 10)) (add-one w)

pub length_decimal : (w n : ℕ) → length (decimal_text w n) ≡ w
unfolding decimal_text leading_text
length_decimal zero n = refl
length_decimal (suc w) n = length-append (leading_text w (n / 10)) ((48 + n % 10) ∷ []) ∙ rw (length_leading w (n / 10)) (add-one w)

-- a store right behind the region that is still to be written
splice-last : (a : ℕ) (ys xs : List ℕ) (v : ℕ) → a + length ys < length xs → splice a ys (set xs (a + length ys) v) ≡ splice a (ys ++ (v ∷ [])) xs
splice-last a ys xs v h =
    ap (splice a ys) (one_store (a + length ys) v xs h)
    ∙ sym (splice_swap a (a + length ys) ys (v ∷ []) xs (omega arith) (omega arith)) ∙ splice_append a ys (v ∷ []) xs (omega arith)

-- a turn of the loop that writes from the right: what is left to write gives what was to be written before
pub leading_turn : (a left rest b : ℕ) (xs : List ℕ) → 0 < left → a + left ≤ length xs → b ≡ leading_byte rest
    → splice a (leading_text (left - 1) (rest / 10)) (set xs (a + (left - 1)) b) ≡ splice a (leading_text left rest) xs
unfolding leading_text
leading_turn a zero rest b xs p h e = absurd (omega arith)
leading_turn a (suc w) rest b xs p h e =
    let k : suc w - 1 ≡ w = omega arith in
    let l = length_leading w (rest / 10) in
    rw (k, e) (ap (λ (m : ℕ). splice a (leading_text w (rest / 10)) (set xs (a + m) (leading_byte rest))) (sym l)
    ∙ splice-last a (leading_text w (rest / 10)) xs (leading_byte rest) (omega arith))

pub leading_done : (a left rest : ℕ) (xs : List ℕ) → left ≡ 0 → splice a (leading_text left rest) xs ≡ xs
unfolding leading_text
leading_done a left rest xs e = rw e (splice-none a xs)

-- the columns before the last, and then the last one
pub decimal-written : (a w n : ℕ) (xs us : List ℕ) → 1 ≤ w → a + w ≤ length xs → us ≡ splice a (leading_text (w - 1) (n / 10)) xs
    → set us (a + (w - 1)) (48 + n % 10) ≡ splice a (decimal_text w n) xs
unfolding decimal_text leading_text
decimal-written a zero n xs us p h e = absurd (omega arith)
decimal-written a (suc w) n xs us p h e =
    let k : suc w - 1 ≡ w = omega arith in
    let l = length_leading w (n / 10) in
    ap (λ (m : List ℕ). set m (a + (suc w - 1)) (48 + n % 10)) e
    ∙ rw k (ap (λ (m : ℕ). set (splice a (leading_text w (n / 10)) xs) (a + m) (48 + n % 10)) (sym l)
    ∙ splice_snoc a (leading_text w (n / 10)) xs (48 + n % 10) (omega arith))
