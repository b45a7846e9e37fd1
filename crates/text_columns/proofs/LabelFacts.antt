-- Facts of labels, and of the number of a state.
use mathlib.Core.Path.{◌≡◌, refl, sym, ap, ◌∙◌}
use mathlib.Core.Bool.{Bool, true, false, true≢false, and_assoc, and-true}
use mathlib.Core.List.{List, [], ◌∷◌}
use Prim.Native.Nat.{ℕ, zero, suc, ◌+◌, ◌-◌, ◌≤◌, ◌<◌}
use native.Mathlib.Omega.{arith}
use lib.Dec.{ltb, eqb}
use native.Mathlib.Numerals.{add-one}
use lib.ListN.{length, take, drop, get_or, drop_of_length-le}
use lib.Seq.{drop-cons, drop-drop}
use borrow.Author.Tests.{eqb-true, lt-ltb, le-ltb}
use Rattle.automata.specs.Lists.{if, and, or, all}
use Rattle.automata.specs.Answer.{◌>>=◌, ok, refused, check, require, beside, forget}
use Rattle.automata.specs.Refusal.{form}
use Rattle.automata.specs.Decimal.{decimal}
use Rattle.automata.specs.Symbols.{is_symbol}
use Rattle.automata.specs.TableText.{after_blanks}
use Rattle.automata.specs.Layout.{label_width}
use Rattle.table.specs.Answers.{Judged, judged_as}
use Rattle.table.proofs.AnswerFacts.{beside-next, beside_first, beside-last}
use Rattle.text_columns.specs.Columns.{read_decimal, read_state_number, blank_count, may_follow, follow_from, label_fits, read_label, labels_read}

-- ---- the number of a state
module _ (states : ℕ) (x : List ℕ) (l : length x ≡ 6) where
  pub number_is : read_state_number states x ≡ (read_decimal x >>= λ q. check (ltb q states) 4 q)
  unfolding read_state_number read_decimal
  number_is = sym (ap (λ (k : ℕ). (decimal k).read x >>= λ q. check (ltb q states) 4 q) l)

  pub number-refused : (k : ℕ) → refused k ≡ read_decimal x → refused k ≡ read_state_number states x
  number-refused k e = sym (number_is ∙ rw (← e))

  pub number_beyond : (n : ℕ) → ok n ≡ read_decimal x → states ≤ n → refused 4 ≡ read_state_number states x
  number_beyond n e h = sym (number_is ∙ rw (← e, le-ltb n states h))

  pub number-within : (n : ℕ) → ok n ≡ read_decimal x → n < states → ok n ≡ read_state_number states x
  number-within n e h = sym (number_is ∙ rw (← e, lt-ltb n states h))

-- ---- a label

-- what follows the blanks is what stands behind as many places
pub after_blanks_lem : (x : List ℕ) → after_blanks x ≡ drop (blank_count x) x
unfolding blank_count
after_blanks_lem [] = refl
after_blanks_lem (c ∷ x) = go (eqb c 32) (after_blanks_lem x)
  where
    go : (b : Bool) → after_blanks x ≡ drop (blank_count x) x → if b (after_blanks x) (c ∷ x) ≡ drop (if b (suc (blank_count x)) 0) (c ∷ x)
    go true ih = ih
    go false ih = refl

-- a symbol is no blank
symbol_visible : (c : ℕ) → is_symbol c ≡ true → eqb c 32 ≡ false
symbol_visible c e = go (eqb c 32) refl
  where
    go : (b : Bool) → eqb c 32 ≡ b → eqb c 32 ≡ false
    go true f = absurd (true≢false (sym e ∙ ap is_symbol (eqb-true c 32 f)))
    go false f = f

-- behind what is no blank only symbols may follow
follow-symbols : (b : ℕ) (x : List ℕ) → eqb b 32 ≡ false → follow_from b x ≡ all is_symbol x
unfolding follow_from
follow-symbols b [] e = refl
follow-symbols b (c ∷ x) e = rw e (go (is_symbol c) refl (follow-symbols c x))
  where
    go : (s : Bool) → is_symbol c ≡ s → (eqb c 32 ≡ false → follow_from c x ≡ all is_symbol x) → and (or s (and false (eqb c 32))) (follow_from c x) ≡ and s (all is_symbol x)
    go true f ih = ih (symbol_visible c f)
    go false f ih = refl

-- behind a blank, blanks and then symbols
follow-blanks : (x : List ℕ) → follow_from 32 x ≡ all is_symbol (after_blanks x)
unfolding follow_from
follow-blanks [] = refl
follow-blanks (c ∷ x) = go (eqb c 32) refl (follow-blanks x)
  where
    one : (s t : Bool) → and (or s false) t ≡ and s t
    one true t = refl
    one false t = refl

    go : (b : Bool) → eqb c 32 ≡ b → follow_from 32 x ≡ all is_symbol (after_blanks x) → and (or (is_symbol c) (and true b)) (follow_from c x) ≡ all is_symbol (if b (after_blanks x) (c ∷ x))
    go true e ih = ap (λ (d : ℕ). and (or (is_symbol d) true) (follow_from d x)) (eqb-true c 32 e) ∙ ih
    go false e ih = rw (follow-symbols c x e) (one (is_symbol c) (all is_symbol x))

label_fits_lem : (x : List ℕ) → length x ≡ label_width → require (label_fits x) form ≡ forget (read_label x)
unfolding label_fits read_label
label_fits_lem [] l = absurd (omega arith)
label_fits_lem (c ∷ x) l = go (eqb c 32) refl
  where
    fine : (s : Bool) → require s form ≡ forget (beside (require true form) (check s form (after_blanks x)) >>= λ p. ok p.1)
    fine true = refl
    fine false = refl

    filled : (s : Bool) → refused 2 ≡ forget (beside (require false form) (check s form (after_blanks x)) >>= λ p. ok p.1)
    filled true = refl
    filled false = refl

    go : (b : Bool) → eqb c 32 ≡ b → require (and b (follow_from c x)) form ≡ forget (beside (require (and b true) form) (check (all is_symbol (after_blanks x)) form (after_blanks x)) >>= λ p. ok p.1)
    go true e = let f : follow_from c x ≡ all is_symbol (after_blanks x) = ap (λ (d : ℕ). follow_from d x) (eqb-true c 32 e) ∙ follow-blanks x in rw f (fine (all is_symbol (after_blanks x)))
    go false e = filled (all is_symbol (after_blanks x))

-- a label, judged by the test of its columns
pub label_judged_lem : (x : List ℕ) (f b : Bool) → length x ≡ label_width → f ≡ label_fits x → f ≡ b → require b form ≡ forget (read_label x)
label_judged_lem x f b l e t = ap (λ (s : Bool). require s form) (sym t ∙ e) ∙ label_fits_lem x l

-- a turn of the loop over the columns, and its end
module _ (x : List ℕ) (i before : ℕ) (f : Bool) where
  pub follow_turn : i < length x → (s : Bool) → s ≡ may_follow before (get_or x i 0)
      → and (and f s) (follow_from (get_or x (i + 1 - 1) 0) (drop (i + 1) x)) ≡ and f (follow_from before (drop i x))
  unfolding follow_from
  follow_turn h s e = let k : i + 1 - 1 ≡ i = omega arith in rw (e, k, drop-cons x i 0 h, add-one i) (and_assoc f (may_follow before (get_or x i 0)) (follow_from (get_or x i 0) (drop (suc i) x)))

  pub follow_end : length x ≤ i → f ≡ and f (follow_from before (drop i x))
  unfolding follow_from
  follow_end h = let d : drop i x ≡ [] = drop_of_length-le x h in rw d (sym (and-true f))

-- ---- labels, one after the other

-- a turn of the loop over the labels
pub labels_turn : (x : List ℕ) (at left : ℕ) (j k next : Judged) → 0 < left → judged_as k ≡ forget (read_label (take (at + label_width - at) (drop at x)))
    → judged_as next ≡ forget (beside (judged_as j) (judged_as k))
    → forget (beside (judged_as next) (labels_read (left - 1) (drop (at + label_width) x))) ≡ forget (beside (judged_as j) (labels_read left (drop at x)))
unfolding labels_read read_label
labels_turn x at zero j k next h e f = absurd (omega arith)
labels_turn x at (suc left) j k next h e f =
    let s : suc left - 1 ≡ left = omega arith in
    let n : at + label_width - at ≡ label_width = omega arith in
    rw (s, f, e, n, ← drop-drop label_width at x) (beside-next (judged_as j) (read_label (take label_width (drop at x))) (labels_read left (drop label_width (drop at x))) (λ p. p.0 ∷ p.1))

pub labels_end_lem : (x : List ℕ) (at left : ℕ) (j : Judged) → left ≡ 0 → judged_as j ≡ forget (beside (judged_as j) (labels_read left (drop at x)))
unfolding labels_read
labels_end_lem x at left j e = rw e (beside-last (judged_as j) _)

pub labels_start_lem : (x : List ℕ) (n : ℕ) → forget (beside (ok (tt {0})) (labels_read n (drop 0 x))) ≡ forget (labels_read n x)
labels_start_lem x n = beside_first (labels_read n x)
