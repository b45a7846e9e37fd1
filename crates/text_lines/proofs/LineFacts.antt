-- Facts of lines: parts side by side, of which the least refusal counts.
use mathlib.Core.Path.{◌≡◌, refl, sym, ap, ◌∙◌}
use mathlib.Core.Bool.{Bool, true, false}
use mathlib.Core.Option.{Option}
use mathlib.Core.List.{List, [], ◌∷◌}
use Prim.Native.Nat.{ℕ, zero, suc, ◌+◌, ◌≤◌}
use native.Mathlib.Omega.{arith}
use lib.Dec.{eqb}
use lib.ListN.{length, take, drop, get_or, drop_of_length-le}
use lib.Seq.{drop-cons, take-take, take-nil}
use native.Mathlib.Nat.{zero-add, suc-add}
use Rattle.automata.specs.Lists.{and, same_list}
use Rattle.automata.specs.Automaton.{State}
use Rattle.automata.specs.Answer.{◌>>=◌, Answer, ok, beside, require, forget}
use Rattle.automata.specs.Refusal.{form}
use Rattle.automata.proofs.AnswerFacts.{forget-beside, forget_map, forget_unit}
use Rattle.automata.specs.Layout.{amount_width, newline, state_end, state_width}
use Rattle.table.specs.Answers.{Judged, judged_as}
use Rattle.text_columns.specs.Columns.{read_weight}
use Rattle.text_lines.specs.Lines.{read_state_line}

-- ---- columns of a line
pub drop_take : {A : Type 0} (m n : ℕ) (x : List A) → drop m (take (m + n) x) ≡ take n (drop m x)
drop_take zero n x = rw zero-add
drop_take (suc m) n [] = rw suc-add (sym (take-nil n))
drop_take (suc m) n (c ∷ x) = rw suc-add (drop_take m n x)

-- the byte that ends a line
pub line_end_is : (w : ℕ) (x : List ℕ) → length x ≡ w + 1 → require (same_list (drop w x) (newline ∷ [])) form ≡ require (eqb (get_or x w 0) newline) form
line_end_is w x e =
    let k : length x ≤ suc w = omega arith in
    let d : drop (suc w) x ≡ [] = drop_of_length-le x k in
    rw (drop-cons x w 0 (omega arith), d) (go (eqb (get_or x w 0) newline))
  where
    go : (b : Bool) → require (and b true) form ≡ require b form
    go true = refl
    go false = refl

-- ---- the line of a state
abbrev pub state_of : Option ℕ × Option ℕ → State ℕ
state_of p = record { initial = p.0; final = p.1 }

-- its weights and its end, side by side
abbrev pub state_parts : Answer (Option ℕ) → Answer (Option ℕ) → Answer (Unit {0}) → Answer (State ℕ × Unit {0})
state_parts a b e = beside (beside a b >>= λ p. ok (state_of p)) e

pub state-line_is : (x : List ℕ) → length x ≡ state_width
    → read_state_line x ≡ (state_parts (read_weight (take amount_width x)) (read_weight (take amount_width (drop amount_width x))) (require (eqb (get_or x state_end 0) newline) form) >>= λ p. ok p.0)
unfolding read_state_line read_weight
state-line_is x l = rw (take-take amount_width state_end x (omega arith), drop_take amount_width amount_width x, line_end_is state_end x l)

state_forgets : (a b : Answer (Option ℕ)) (e : Answer (Unit {0})) → forget (beside (forget (beside (forget a) (forget b))) e) ≡ forget (state_parts a b e)
state_forgets a b e =
    ap (λ (z : Answer (Unit {0})). forget (beside z e)) (forget-beside a b ∙ sym (forget_map (beside a b) state_of))
    ∙ ap (λ (z : Answer (Unit {0})). forget (beside (forget (beside a b >>= λ p. ok (state_of p))) z)) (sym (forget_unit e))
    ∙ forget-beside (beside a b >>= λ p. ok (state_of p)) e

module _ (x : List ℕ) (l : length x ≡ state_width) (ja jb jw je j : Judged)
    (p : judged_as ja ≡ forget (read_weight (take amount_width x))) (q : judged_as jb ≡ forget (read_weight (take amount_width (drop amount_width x)))) (w : judged_as jw ≡ forget (beside (judged_as ja) (judged_as jb)))
    (e : judged_as je ≡ require (eqb (get_or x state_end 0) newline) form) (h : judged_as j ≡ forget (beside (judged_as jw) (judged_as je))) where
  pub state-line_judged : judged_as j ≡ forget (read_state_line x)
  state-line_judged =
      let a = read_weight (take amount_width x) in
      let b = read_weight (take amount_width (drop amount_width x)) in
      h ∙ rw (w, p, q, e) (state_forgets a b (require (eqb (get_or x state_end 0) newline) form)) ∙ sym (forget_map (state_parts a b (require (eqb (get_or x state_end 0) newline) form)) (λ p. p.0))
      ∙ ap forget (sym (state-line_is x l))
