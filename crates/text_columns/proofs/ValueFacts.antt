-- Columns that are fine: the number or weight that they are read as is what they come to without a judgement.
use mathlib.Core.Path.{◌≡◌, refl, sym, ◌∙◌}
use mathlib.Core.Bool.{Bool, true, false}
use mathlib.Core.Option.{Option, none, some}
use mathlib.Core.List.{List, [], ◌∷◌}
use Prim.Native.Nat.{ℕ, ◌+◌, ◌*◌, ◌%◌, ◌≤◌, ◌<◌}
use native.Mathlib.Omega.{arith}
use lib.Dec.{T, leb, ltb, eqb, leb→le, ltb→lt}
use lib.ListN.{length, get_or}
use borrow.Author.Tests.{ne_eqb, eqb-true}
use Rattle.automata.specs.Lists.{if, and, same_list}
use Rattle.automata.specs.Answer.{◌>>=◌, ok, check}
use Rattle.automata.specs.Refusal.{form, size, state}
use Rattle.automata.specs.Symbols.{is_digit}
use Rattle.automata.specs.Decimal.{with_digit, leading_column}
use Rattle.automata.specs.TableText.{absent}
use Rattle.automata.proofs.TestFacts.{and_T, and_true, same_list→eq}
use Rattle.automata.proofs.AnswerFacts.{check-ok, bind_ok}
use Rattle.automata.specs.Layout.{amount_width}
use Rattle.text_columns.specs.Columns.{last_column, read_decimal, read_state_number, read_present, read_weight, absent_mark, columns_value, columns_weight}
use Rattle.text_columns.proofs.ColumnFacts.{scan_number, scan_decimal}
use Rattle.text_columns.proofs.LabelFacts.{number_is}
use Rattle.text_columns.proofs.WeightFacts.{present_is, weight_is}

-- ---- one column

-- a digit
digit_value : (n c : ℕ) → T (is_digit c) → with_digit n c ≡ n * 10 + c % 16
digit_value n c t = let d = and_T (leb 48 c) (leb c 57) t in omega (arith, leb→le 48 c d.0, leb→le c 57 d.1)

column_value : (n c m : ℕ) → leading_column (n, c) ≡ ok m → n * 10 + c % 16 ≡ m
column_value n c m e = go (and (eqb c 32) (eqb n 0)) refl e
  where
    go : (b : Bool) → and (eqb c 32) (eqb n 0) ≡ b → if b (ok 0) (check (and (is_digit c) (leb 1 (with_digit n c))) form (with_digit n c)) ≡ ok m → n * 10 + c % 16 ≡ m
    go true t f =
        let a = and_true (eqb c 32) (eqb n 0) t in
        let p : c ≡ 32 = eqb-true c 32 a.0 in
        let q : n ≡ 0 = eqb-true n 0 a.1 in
        let z : ◌≡◌ {A = ℕ} 0 m = cc in
        omega arith
    go false t f =
        let k = check-ok (and (is_digit c) (leb 1 (with_digit n c))) form (with_digit n c) m f in
        sym (digit_value n c (and_T (is_digit c) (leb 1 (with_digit n c)) k.0).0) ∙ k.1

last_value : (n c m : ℕ) → last_column n c ≡ ok m → T (is_digit c) × (n * 10 + c % 16 ≡ m)
last_value n c m e = let k = check-ok (is_digit c) form (with_digit n c) m e in (k.0, sym (digit_value n c k.0) ∙ k.1)

-- ---- a number

number_value : (n : ℕ) (x : List ℕ) (m : ℕ) → scan_number n x ≡ ok m → columns_value n x ≡ m
unfolding scan_number columns_value
number_value n [] m e = cc
number_value n (c ∷ []) m e = (last_value n c m e).1
number_value n (c ∷ d ∷ x) m e =
    let k = bind_ok (leading_column (n, c)) (λ j. scan_number j (d ∷ x)) m e in
    rw (column_value n c k.0 k.1) (number_value k.0 (d ∷ x) m k.2)

-- its last column is a digit
last-digit : (n c : ℕ) (x : List ℕ) (m : ℕ) → scan_number n (c ∷ x) ≡ ok m → T (is_digit (get_or (c ∷ x) (length x) 0))
unfolding scan_number
last-digit n c [] m e = (last_value n c m e).0
last-digit n c (d ∷ x) m e = let k = bind_ok (leading_column (n, c)) (λ j. scan_number j (d ∷ x)) m e in last-digit k.0 d x m k.2

decimal_value : (x : List ℕ) (m : ℕ) → 1 ≤ length x → read_decimal x ≡ ok m → columns_value 0 x ≡ m
decimal_value x m h e = number_value 0 x m (scan_decimal x h ∙ e)

-- the number of a state
pub state_value : (states : ℕ) (x : List ℕ) (m : ℕ) → length x ≡ 6 → read_state_number states x ≡ ok m → (columns_value 0 x ≡ m) × (m < states)
state_value states x m l e =
    let k = bind_ok (read_decimal x) (λ q. check (ltb q states) state q) m (sym (number_is states x l) ∙ e) in
    let t = check-ok (ltb k.0 states) state k.0 m k.2 in
    let q : k.0 ≡ m = t.1 in
    (decimal_value x k.0 (omega arith) k.1 ∙ q, omega (arith, ltb→lt k.0 states t.0))

-- ---- weights

pub present_value : (x : List ℕ) (m : ℕ) → length x ≡ amount_width → read_present x ≡ ok m → (columns_value 0 x ≡ m) × (m ≤ 999999999)
present_value x m l e =
    let k = bind_ok (read_decimal x) (λ a. check (leb a 999999999) size a) m (sym (present_is x l) ∙ e) in
    let t = check-ok (leb k.0 999999999) size k.0 m k.2 in
    let q : k.0 ≡ m = t.1 in
    (decimal_value x k.0 (omega arith) k.1 ∙ q, omega (arith, leb→le k.0 999999999 t.0))

-- a weight that is there does not end as one that is absent
present_last : (x : List ℕ) (m : ℕ) → length x ≡ amount_width → read_present x ≡ ok m → eqb (get_or x 9 0) 45 ≡ false
present_last [] m l e = absurd (omega arith)
present_last (c ∷ x) m l e =
    let k = bind_ok (read_decimal (c ∷ x)) (λ a. check (leb a 999999999) size a) m (sym (present_is (c ∷ x) l) ∙ e) in
    let n : length x ≡ 9 = omega arith in
    let t = rw n at (last-digit 0 c x k.0 (scan_decimal (c ∷ x) (omega arith) ∙ k.1)) in
    let d = and_T (leb 48 (get_or (c ∷ x) 9 0)) (leb (get_or (c ∷ x) 9 0) 57) t in
    ne_eqb (get_or (c ∷ x) 9 0) 45 (λ f. omega (arith, f, leb→le 48 (get_or (c ∷ x) 9 0) d.0))

pub weight_value : (x : List ℕ) (o : Option ℕ) → length x ≡ amount_width → read_weight x ≡ ok o → columns_weight x ≡ o
unfolding columns_weight absent_mark
weight_value x o l e = go (same_list x absent) refl (sym (weight_is x) ∙ e)
  where
    go : (b : Bool) → same_list x absent ≡ b → if b (ok none) (read_present x >>= λ a. ok (some a)) ≡ ok o → columns_weight x ≡ o
    go true t f = let q : none ≡ o = cc in let p : x ≡ absent = same_list→eq x absent (rw t tt) in rw p q
    go false t f =
        let k = bind_ok (read_present x) (λ a. ok (some a)) o f in
        let v = present_value x k.0 l k.1 in
        let r : k.0 % 4294967296 ≡ k.0 = omega (arith, v.1) in
        let q : some k.0 ≡ o = cc k.2 in
        rw (present_last x k.0 l k.1, v.0, r) q
