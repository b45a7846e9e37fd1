-- Facts of the columns of a weight.
use mathlib.Core.Path.{◌≡◌, refl, sym, ap, ap₂, ◌∙◌}
use mathlib.Core.Bool.{Bool, true, false}
use mathlib.Core.Option.{none, some}
use mathlib.Core.List.{List, [], ◌∷◌, ◌++◌}
use Prim.Native.Nat.{ℕ, suc, ◌+◌, ◌≤◌, ◌<◌}
use native.Mathlib.Omega.{arith}
use native.Mathlib.Numerals.{add-one}
use lib.Dec.{leb, eqb}
use lib.ListN.{length, take, drop, get_or, replicate, drop_of_length-le}
use lib.Seq.{drop-cons}
use borrow.Author.Tests.{le-leb, lt-leb, eqb-true}
use Rattle.automata.specs.Lists.{if, and, same_list}
use Rattle.automata.specs.Answer.{◌>>=◌, ok, refused, check, forget}
use Rattle.automata.specs.Decimal.{decimal}
use Rattle.automata.specs.TableText.{absent}
use Rattle.automata.proofs.TestFacts.{T_false, same_list→eq}
use Rattle.automata.proofs.AnswerFacts.{forget_map}
use Rattle.automata.specs.Layout.{amount_width}
use Rattle.std.specs.Prelude.{Ok, Err}
use Rattle.std.specs.Result.{result_and}
use Rattle.table.specs.Answers.{judged_as}
use Rattle.std.specs.Int.{from_bool}
use Rattle.text_columns.specs.Columns.{Number, number_as, read_decimal, blank_count, absent_mark, read_present, read_weight}
use Rattle.text_columns.proofs.ColumnFacts.{snoc_of}

-- ---- blanks, counted from the left

-- a test counts as one, or not
pub flag_bound : (b : Bool) (n : ℕ) → n ≡ from_bool b → n ≤ 1
flag_bound true n e = omega arith
flag_bound false n e = omega arith

-- the blanks from place i on, where there were only blanks before
abbrev pub blanks_from : Bool → ℕ → List ℕ → ℕ
blanks_from blank i x = if blank (blank_count (drop i x)) 0

module _ (x : List ℕ) (i n : ℕ) where
  -- one column more
  pub blanks_turn : (b : Bool) (m : ℕ) → i < length x → m ≡ from_bool (and b (eqb (get_or x i 0) 32)) → n + m + blanks_from (and b (eqb (get_or x i 0) 32)) (i + 1) x ≡ n + blanks_from b i x
  unfolding blank_count
  blanks_turn b m h f = rw (f, drop-cons x i 0 h, add-one i) (go b (eqb (get_or x i 0) 32))
    where
      go : (b e : Bool) → n + from_bool (and b e) + if (and b e) (blank_count (drop (suc i) x)) 0 ≡ n + if b (if e (suc (blank_count (drop (suc i) x))) 0) 0
      go true true = omega arith
      go true false = omega arith
      go false e = omega arith

  pub blanks_end : (b : Bool) → length x ≤ i → n ≡ n + blanks_from b i x
  unfolding blank_count
  blanks_end b h = let d : drop i x ≡ [] = drop_of_length-le x h in rw d (go b)
    where
      go : (b : Bool) → n ≡ n + if b 0 0
      go true = omega arith
      go false = omega arith

-- as many blanks as were counted stand at the front
pub take_blanks : (x : List ℕ) → take (blank_count x) x ≡ replicate (blank_count x) 32
unfolding blank_count
take_blanks [] = refl
take_blanks (c ∷ x) = go (eqb c 32) refl (take_blanks x)
  where
    go : (b : Bool) → eqb c 32 ≡ b → take (blank_count x) x ≡ replicate (blank_count x) 32 → take (if b (suc (blank_count x)) 0) (c ∷ x) ≡ replicate (if b (suc (blank_count x)) 0) 32
    go true e ih = ap₂ (λ (d : ℕ) (l : List ℕ). d ∷ l) (eqb-true c 32 e) ih
    go false e ih = refl

-- ---- the mark of an absent weight
module _ (x : List ℕ) (l : length x ≡ amount_width) where
  pub absent_other : (blank_count x ≡ 9 → ⊥) → false ≡ absent_mark x
  unfolding absent_mark blank_count
  absent_other h = sym (T_false (same_list x absent) (λ t. h (ap blank_count (same_list→eq x absent t))))

  pub absent-last : blank_count x ≡ 9 → eqb (get_or x 9 0) 45 ≡ absent_mark x
  unfolding absent_mark
  absent-last e =
      let b : take 9 x ≡ replicate 9 32 = sym (ap (λ (n : ℕ). take n x) e) ∙ take_blanks x ∙ ap (λ (n : ℕ). replicate n 32) e in
      let s : x ≡ replicate 9 32 ++ (get_or x 9 0 ∷ []) = sym (snoc_of 9 x l) ∙ ap (λ (y : List ℕ). y ++ (get_or x 9 0 ∷ [])) b in
      go (eqb (get_or x 9 0) 45) refl ∙ ap (λ (y : List ℕ). same_list y absent) (sym s)
    where
      go : (b : Bool) → eqb (get_or x 9 0) 45 ≡ b → eqb (get_or x 9 0) 45 ≡ same_list (replicate 9 32 ++ (get_or x 9 0 ∷ [])) absent
      go true e = rw e
      go false e = rw e

-- ---- a weight that is there
module _ (x : List ℕ) (l : length x ≡ amount_width) where
  pub present_is : read_present x ≡ (read_decimal x >>= λ a. check (leb a 999999999) 3 a)
  unfolding read_present read_decimal
  present_is = sym (ap (λ (k : ℕ). (decimal k).read x >>= λ a. check (leb a 999999999) 3 a) l)

  pub present_refused : (k : ℕ) → refused k ≡ read_decimal x → refused k ≡ read_present x
  present_refused k e = sym (present_is ∙ rw (← e))

  pub present_size : (n : ℕ) → ok n ≡ read_decimal x → 999999999 < n → refused 3 ≡ read_present x
  present_size n e h = sym (present_is ∙ rw (← e, lt-leb n 999999999 h))

  pub present_value : (n : ℕ) → ok n ≡ read_decimal x → n ≤ 999999999 → ok n ≡ read_present x
  present_value n e h = sym (present_is ∙ rw (← e, le-leb n 999999999 h))

-- ---- a weight that may be absent

-- a number that is forgotten leaves its refusal
pub judged_and : (r : Number) → judged_as (result_and r (Ok tt)) ≡ forget (number_as r)
judged_and (Ok n) = refl
judged_and (Err k) = refl

module _ (x : List ℕ) where
  pub weight_is : read_weight x ≡ if (absent_mark x) (ok none) (read_present x >>= λ a. ok (some a))
  unfolding read_weight absent_mark read_present
  weight_is = refl

  pub weight-absent : absent_mark x ≡ true → ok tt ≡ forget (read_weight x)
  weight-absent e = sym (ap forget weight_is ∙ rw e)

  pub weight_judged : (r : Number) → absent_mark x ≡ false → number_as r ≡ read_present x → judged_as (result_and r (Ok tt)) ≡ forget (read_weight x)
  weight_judged r e f = judged_and r ∙ rw f (sym (ap forget weight_is ∙ rw e (forget_map (read_present x) some)))
