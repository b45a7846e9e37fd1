-- The rule of the table of symbol numbers, at all of its entries by one computed test, symbols by ranges, and symbols
-- as they are compared.
use mathlib.Core.Path.{◌≡◌, refl, sym, subst, ◌∙◌}
use mathlib.Core.Bool.{Bool, true, false, not}
use mathlib.Core.Option.{Option, none, some}
use mathlib.Core.List.{List, [], ◌∷◌}
use Prim.Native.Nat.{ℕ, zero, suc, ◌+◌, ◌-◌, ◌≤◌, ◌<◌}
use native.Mathlib.Nat.{add-zero, zero-add, add-suc, suc-add, le_of_suc-le-suc, not-suc-le-zero}
use native.Mathlib.Omega.{arith}
use lib.Dec.{T, eqb, leb, eqb→eq, leb→le}
use lib.ListN.{length, get_or}
use borrow.Author.Tests.{ne_eqb, le-leb, lt-leb}
use Rattle.automata.specs.Lists.{if, and, or, is_some, Each}
use Rattle.automata.specs.TapePair.{reading}
use Rattle.automata.specs.Symbols.{is_letter, is_digit, is_symbol, symbol_number}
use Rattle.automata.proofs.TestFacts.{and_T}
use Rattle.table.specs.Symbols.{entry_of, symbol_entry}

-- ---- a rule of a table

-- the test f passes at each entry of the list and its place, counted from i
abbrev every : (ℕ → ℕ → Bool) → ℕ → List ℕ → Bool
every f i [] = true
every f i (x ∷ xs) = and (f i x) (every f (suc i) xs)

-- it passes at the k-th
every-from : (f : ℕ → ℕ → Bool) (xs : List ℕ) (i : ℕ) → T (every f i xs) → (k : ℕ) → k < length xs → T (f (i + k) (get_or xs k 0))
every-from f [] i t k h = absurd (not-suc-le-zero h)
every-from f (x ∷ xs) i t zero h = subst (λ (m : ℕ). T (f m x)) (sym (add-zero i)) (and_T (f i x) (every f (suc i) xs) t).0
every-from f (x ∷ xs) i t (suc k) h =
    subst (λ (m : ℕ). T (f m (get_or xs k 0))) (suc-add i k ∙ sym (add-suc i k))
    (every-from f xs (suc i) (and_T (f i x) (every f (suc i) xs) t).1 k (le_of_suc-le-suc h))

-- ---- the table of symbol numbers

-- the table
unfoldable pub numbers : List ℕ
numbers =
    255 ∷ 255 ∷ 255 ∷ 255 ∷ 255 ∷ 255 ∷ 255 ∷ 255 ∷ 255 ∷ 255 ∷ 255 ∷ 255 ∷ 255 ∷ 255 ∷ 255 ∷ 255 ∷
    255 ∷ 255 ∷ 255 ∷ 255 ∷ 255 ∷ 255 ∷ 255 ∷ 255 ∷ 255 ∷ 255 ∷ 255 ∷ 255 ∷ 255 ∷ 255 ∷ 255 ∷ 255 ∷
    255 ∷ 255 ∷ 255 ∷ 255 ∷ 255 ∷ 255 ∷ 255 ∷ 255 ∷ 255 ∷ 255 ∷ 255 ∷ 255 ∷ 255 ∷ 255 ∷ 255 ∷ 255 ∷
    26 ∷ 27 ∷ 28 ∷ 29 ∷ 30 ∷ 31 ∷ 32 ∷ 33 ∷ 34 ∷ 35 ∷ 255 ∷ 255 ∷ 255 ∷ 255 ∷ 255 ∷ 255 ∷
    255 ∷ 0 ∷ 1 ∷ 2 ∷ 3 ∷ 4 ∷ 5 ∷ 6 ∷ 7 ∷ 8 ∷ 9 ∷ 10 ∷ 11 ∷ 12 ∷ 13 ∷ 14 ∷
    15 ∷ 16 ∷ 17 ∷ 18 ∷ 19 ∷ 20 ∷ 21 ∷ 22 ∷ 23 ∷ 24 ∷ 25 ∷ 255 ∷ 255 ∷ 255 ∷ 255 ∷ 255 ∷
    255 ∷ 255 ∷ 255 ∷ 255 ∷ 255 ∷ 255 ∷ 255 ∷ 255 ∷ 255 ∷ 255 ∷ 255 ∷ 255 ∷ 255 ∷ 255 ∷ 255 ∷ 255 ∷
    255 ∷ 255 ∷ 255 ∷ 255 ∷ 255 ∷ 255 ∷ 255 ∷ 255 ∷ 255 ∷ 255 ∷ 255 ∷ 255 ∷ 255 ∷ 255 ∷ 255 ∷ 255 ∷
    255 ∷ 255 ∷ 255 ∷ 255 ∷ 255 ∷ 255 ∷ 255 ∷ 255 ∷ 255 ∷ 255 ∷ 255 ∷ 255 ∷ 255 ∷ 255 ∷ 255 ∷ 255 ∷
    255 ∷ 255 ∷ 255 ∷ 255 ∷ 255 ∷ 255 ∷ 255 ∷ 255 ∷ 255 ∷ 255 ∷ 255 ∷ 255 ∷ 255 ∷ 255 ∷ 255 ∷ 255 ∷
    255 ∷ 255 ∷ 255 ∷ 255 ∷ 255 ∷ 255 ∷ 255 ∷ 255 ∷ 255 ∷ 255 ∷ 255 ∷ 255 ∷ 255 ∷ 255 ∷ 255 ∷ 255 ∷
    255 ∷ 255 ∷ 255 ∷ 255 ∷ 255 ∷ 255 ∷ 255 ∷ 255 ∷ 255 ∷ 255 ∷ 255 ∷ 255 ∷ 255 ∷ 255 ∷ 255 ∷ 255 ∷
    255 ∷ 255 ∷ 255 ∷ 255 ∷ 255 ∷ 255 ∷ 255 ∷ 255 ∷ 255 ∷ 255 ∷ 255 ∷ 255 ∷ 255 ∷ 255 ∷ 255 ∷ 255 ∷
    255 ∷ 255 ∷ 255 ∷ 255 ∷ 255 ∷ 255 ∷ 255 ∷ 255 ∷ 255 ∷ 255 ∷ 255 ∷ 255 ∷ 255 ∷ 255 ∷ 255 ∷ 255 ∷
    255 ∷ 255 ∷ 255 ∷ 255 ∷ 255 ∷ 255 ∷ 255 ∷ 255 ∷ 255 ∷ 255 ∷ 255 ∷ 255 ∷ 255 ∷ 255 ∷ 255 ∷ 255 ∷
    255 ∷ 255 ∷ 255 ∷ 255 ∷ 255 ∷ 255 ∷ 255 ∷ 255 ∷ 255 ∷ 255 ∷ 255 ∷ 255 ∷ 255 ∷ 255 ∷ 255 ∷ 255 ∷ []

-- an entry is right
unfoldable right_entry : ℕ → ℕ → Bool
right_entry b x = eqb x (symbol_entry b)

-- every entry is
pub numbers_right : (b : ℕ) → b < 256 → get_or numbers b 0 ≡ symbol_entry b
unfolding numbers right_entry symbol_number
numbers_right b h =
    eqb→eq (get_or numbers b 0) (symbol_entry b)
    (subst (λ (m : ℕ). T (right_entry m (get_or numbers b 0))) (zero-add b) (every-from right_entry numbers 0 tt b h))

-- ---- what an entry says

-- a byte has a symbol number just where it is a symbol
symbol_is : (b : ℕ) → is_some (symbol_number b) ≡ is_symbol b
unfolding symbol_number
symbol_is b = go (is_letter b) (is_digit b) (b - 65) (26 + (b - 48))
  where
    go : (l d : Bool) (m n : ℕ) → is_some (if l (some m) (if d (some n) none)) ≡ or l d
    go true d m n = refl
    go false true m n = refl
    go false false m n = refl

-- the number of a symbol is below 36
symbol_bound : (b : ℕ) → Each (λ n. n < 36) (symbol_number b)
unfolding symbol_number
symbol_bound b = go (is_letter b) (is_digit b) (λ t. t) (λ t. t)
  where
    go : (l d : Bool) → (T l → T (is_letter b)) → (T d → T (is_digit b)) → Each (λ n. n < 36) (if l (some (b - 65)) (if d (some (26 + (b - 48))) none))
    go true d f g = let s = and_T (leb 65 b) (leb b 90) (f tt) in omega (arith, leb→le 65 b s.0, leb→le b 90 s.1)
    go false true f g = let s = and_T (leb 48 b) (leb b 57) (g tt) in omega (arith, leb→le 48 b s.0, leb→le b 57 s.1)
    go false false f g = tt

module _ (b x : ℕ) (e : x ≡ symbol_entry b) where
  -- an entry of 255 is no symbol
  pub no_symbol : x ≡ 255 → none ≡ symbol_number b
  no_symbol f = go (symbol_number b) (sym e ∙ f) (symbol_bound b)
    where
      go : (o : Option ℕ) → entry_of o ≡ 255 → Each (λ n. n < 36) o → none ≡ o
      go none e h = refl
      go (some n) e h = absurd (omega arith)

  -- the test by the table is the test of a symbol
  pub symbol_test : not (eqb x 255) ≡ is_symbol b
  symbol_test = rw e (go (symbol_number b) (symbol_bound b) ∙ symbol_is b)
    where
      go : (o : Option ℕ) → Each (λ n. n < 36) o → not (eqb (entry_of o) 255) ≡ is_some o
      go none h = refl
      go (some n) h = let k : n ≡ 255 → ⊥ = omega arith in rw (ne_eqb n 255 k)

-- ---- symbols by ranges
module _ (b : ℕ) (h : 48 ≤ b) where
  -- a digit
  pub digit_symbol : b ≤ 57 → true ≡ is_symbol b
  digit_symbol k = rw (lt-leb 65 b (omega arith), le-leb 48 b h, le-leb b 57 k)

  -- behind the digits: a letter where it is not past Z
  pub letter_symbol : 57 < b → 65 ≤ b → leb b 90 ≡ is_symbol b
  letter_symbol k l = rw (le-leb 65 b l, le-leb 48 b h, lt-leb b 57 k) (go (leb b 90))
    where
      go : (t : Bool) → t ≡ or t false
      go true = refl
      go false = refl

-- ---- symbols as they are compared
module _ (b : ℕ) where
  -- I as 1
  pub read_I : b ≡ 73 → 49 ≡ reading b
  unfolding reading
  read_I e = rw e refl

  -- O as 0
  pub read_O : b ≡ 79 → 48 ≡ reading b
  unfolding reading
  read_O e = rw e refl

  -- any other as it is written
  pub read_other : (b ≡ 73 → ⊥) → (b ≡ 79 → ⊥) → b ≡ reading b
  unfolding reading
  read_other e f = rw (ne_eqb b 73 e, ne_eqb b 79 f) refl
