-- Facts of the columns of a decimal number, read from the left.
use mathlib.Core.Path.{◌≡◌, refl, sym, ap, ◌∙◌}
use mathlib.Core.List.{List, [], ◌∷◌, ◌++◌}
use Prim.Native.Nat.{ℕ, zero, suc, ◌+◌, ◌-◌, ◌*◌, ◌%◌, ◌^◌, ◌≤◌, ◌<◌}
use native.Mathlib.Omega.{arith}
use native.Mathlib.Numerals.{add-one}
use native.Mathlib.Nat.{pow-suc, pow-le-pow_right}
use lib.Dec.{lit<}
use lib.ListN.{length, take, drop, get_or, drop_of_length-le}
use lib.Seq.{drop-cons, take-suc, take_all, length-take-le}
use Rattle.automata.specs.Answer.{◌>>=◌, Answer, ok, refused, beside}
use Rattle.automata.specs.Decimal.{leading_column, leading, decimal}
use Rattle.automata.proofs.NumberFacts.{leading_column-only}
use Rattle.text_columns.specs.Columns.{last_column, read_decimal, columns_value}

-- ---- the columns before the last, read from the left

-- the columns of a list, behind the number n
unfoldable pub scan : ℕ → List ℕ → Answer ℕ
scan n [] = ok n
scan n (c ∷ x) = leading_column (n, c) >>= λ m. scan m x

scan_snoc : (n : ℕ) (x : List ℕ) (c : ℕ) → scan n (x ++ (c ∷ [])) ≡ (scan n x >>= λ m. leading_column (m, c))
unfolding scan
scan_snoc n [] c = one (leading_column (n, c))
  where
    one : (a : Answer ℕ) → (a >>= λ m. ok m) ≡ a
    one (ok m) = refl
    one (refused k) = refl
scan_snoc n (d ∷ x) c = go (leading_column (n, d)) (λ m. scan_snoc m x c)
  where
    go : (a : Answer ℕ) → ((m : ℕ) → scan m (x ++ (c ∷ [])) ≡ (scan m x >>= λ k. leading_column (k, c)))
        → (a >>= λ m. scan m (x ++ (c ∷ []))) ≡ (a >>= (λ m. scan m x) >>= λ k. leading_column (k, c))
    go (ok m) ih = ih m
    go (refused k) ih = refl

beside-last : (a : Answer ℕ) (c : ℕ) (k : ℕ × ℕ → Answer ℕ) → (beside a (ok c) >>= k) ≡ (a >>= λ m. k (m, c))
beside-last (ok m) c k = refl
beside-last (refused n) c k = refl

-- a list that is not empty, without its last element and with it
pub snoc_of : (w : ℕ) (x : List ℕ) → length x ≡ suc w → take w x ++ (get_or x w 0 ∷ []) ≡ x
snoc_of w x e = sym (take-suc x w 0 (omega arith)) ∙ take_all (suc w) x (omega arith)

pub leading-width : (w : ℕ) → (leading w).width ≡ w
leading-width zero = refl
leading-width (suc w) = rw (leading-width w) (add-one w)

leading_scan : (w : ℕ) (x : List ℕ) → length x ≡ w → (leading w).read x ≡ scan 0 x
unfolding scan
leading_scan zero [] e = refl
leading_scan zero (c ∷ x) e = absurd (omega arith)
leading_scan (suc w) x e =
    rw (leading-width w, leading_scan w (take w x) (length-take-le w x (omega arith)), drop-cons x w 0 (omega arith))
    (beside-last (scan 0 (take w x)) (get_or x w 0) leading_column ∙ sym (scan_snoc 0 (take w x) (get_or x w 0)) ∙ ap (scan 0) (snoc_of w x e))

-- ---- the whole number, read from the left

-- columns up to the last one, behind the number n
unfoldable pub scan_number : ℕ → List ℕ → Answer ℕ
scan_number n [] = ok n
scan_number n (c ∷ []) = last_column n c
scan_number n (c ∷ d ∷ x) = leading_column (n, c) >>= λ m. scan_number m (d ∷ x)

number_snoc : (n : ℕ) (x : List ℕ) (c : ℕ) → scan_number n (x ++ (c ∷ [])) ≡ (scan n x >>= λ m. last_column m c)
unfolding scan scan_number
number_snoc n [] c = refl
number_snoc n (d ∷ []) c = go (leading_column (n, d))
  where
    go : (a : Answer ℕ) → (a >>= λ m. last_column m c) ≡ (a >>= (λ m. ok m) >>= λ m. last_column m c)
    go (ok m) = refl
    go (refused k) = refl
number_snoc n (d ∷ e ∷ x) c = go (leading_column (n, d)) (λ m. number_snoc m (e ∷ x) c)
  where
    go : (a : Answer ℕ) → ((m : ℕ) → scan_number m (e ∷ x ++ (c ∷ [])) ≡ (scan m (e ∷ x) >>= λ k. last_column k c))
        → (a >>= λ m. scan_number m (e ∷ x ++ (c ∷ []))) ≡ (a >>= (λ m. scan m (e ∷ x)) >>= λ k. last_column k c)
    go (ok m) ih = ih m
    go (refused k) ih = refl

decimal_scan : (w : ℕ) (x : List ℕ) → length x ≡ suc w → (decimal (suc w)).read x ≡ scan_number 0 x
decimal_scan w x e =
    rw (leading-width w, leading_scan w (take w x) (length-take-le w x (omega arith)), drop-cons x w 0 (omega arith))
    (beside-last (scan 0 (take w x)) (get_or x w 0) (λ p. last_column p.0 p.1) ∙ sym (number_snoc 0 (take w x) (get_or x w 0)) ∙ ap (scan_number 0) (snoc_of w x e))

pub scan_decimal : (x : List ℕ) → 1 ≤ length x → scan_number 0 x ≡ read_decimal x
unfolding read_decimal
scan_decimal x h = let w = length x - 1 in let e : length x ≡ suc w = omega arith in sym (ap (λ (k : ℕ). (decimal k).read x) e ∙ decimal_scan w x e)

-- ---- one turn of the loop, at column i of x
module _ (x : List ℕ) (i n : ℕ) where
  pub number-last : i + 1 ≡ length x → last_column n (get_or x i 0) ≡ scan_number n (drop i x)
  unfolding scan_number
  number-last e = let k : length x ≤ suc i = omega arith in let d : drop (suc i) x ≡ [] = drop_of_length-le x k in rw (drop-cons x i 0 (omega arith), d)

  number_turn : i + 1 < length x → scan_number n (drop i x) ≡ (leading_column (n, get_or x i 0) >>= λ m. scan_number m (drop (i + 1) x))
  unfolding scan_number
  number_turn h = rw (drop-cons x i 0 (omega arith), add-one i, drop-cons x (suc i) 0 (omega arith))

  pub number-next : (m : ℕ) → i + 1 < length x → ok m ≡ leading_column (n, get_or x i 0) → scan_number m (drop (i + 1) x) ≡ scan_number n (drop i x)
  number-next m h e = sym (number_turn h ∙ rw (← e))

  pub number-refused : (k : ℕ) → i + 1 < length x → refused k ≡ leading_column (n, get_or x i 0) → refused k ≡ scan_number n (drop i x)
  number-refused k h e = sym (number_turn h ∙ rw (← e))

-- the last column, where the loop ends
pub number-last_at : (x : List ℕ) (i last n : ℕ) → i ≡ last → last + 1 ≡ length x → last_column n (get_or x last 0) ≡ scan_number n (drop i x)
number-last_at x i last n e h = rw e (number-last x last n h)

pub column_bound : (i n c m : ℕ) → n < 10 ^ i → ok m ≡ leading_column (n, c) → m < 10 ^ (i + 1)
column_bound i n c m h e = rw (add-one i) (leading_column-only i (n, c) m h (sym e)).0

-- ---- columns that were judged, in a loop
module _ (x : List ℕ) (i n : ℕ) where
  pub value_turn : i < length x → columns_value (n * 10 + get_or x i 0 % 16) (drop (i + 1) x) ≡ columns_value n (drop i x)
  unfolding columns_value
  value_turn h = rw (drop-cons x i 0 h, add-one i)

  pub value_end : length x ≤ i → n ≡ columns_value n (drop i x)
  unfolding columns_value
  value_end h = let d : drop i x ≡ [] = drop_of_length-le x h in rw d

-- what i columns come to
pub value_bound : (i n d : ℕ) → n < 16 ^ i → d < 16 → n * 10 + d < 16 ^ (i + 1)
value_bound i n d h k = rw (add-one i, pow-suc) (omega arith)

pub value_fits : (i n : ℕ) → n < 16 ^ i → i ≤ 10 → n < 1099511627776
value_fits i n h k = let p : 16 ^ i ≤ 16 ^ 10 = pow-le-pow_right (lit< tt) k in omega arith
