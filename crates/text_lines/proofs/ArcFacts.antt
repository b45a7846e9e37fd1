-- Facts of the line of an arc.
use mathlib.Core.Path.{◌≡◌, refl, sym, ap, ◌∙◌}
use mathlib.Core.List.{List}
use Prim.Native.Nat.{ℕ, ◌+◌, ◌-◌, ◌*◌}
use native.Mathlib.Omega.{arith}
use lib.Dec.{eqb}
use lib.ListN.{length, take, drop, get_or}
use lib.Seq.{drop-drop, take-take}
use Rattle.automata.specs.Automaton.{Arc}
use Rattle.automata.specs.Answer.{◌>>=◌, Answer, ok, refused, require, beside, forget}
use Rattle.automata.specs.Refusal.{form}
use Rattle.automata.proofs.AnswerFacts.{forget-beside, forget_unit, forget_map}
use Rattle.automata.specs.Layout.{amount_width, arc_width, label_width, labels_column, newline, number_width, weight_column}
use Rattle.table.specs.Answers.{Judged, judged_as}
use Rattle.text_columns.specs.Columns.{Number, number_as, read_state_number, read_present, labels_read}
use Rattle.text_lines.specs.Lines.{arc_parts, read_arc_line}
use Rattle.text_lines.proofs.LineFacts.{drop_take, line_end_is}

-- ---- what is forgotten early is forgotten all the same
module _ {A C : Type 0} where
  pub forget-left : (a : Answer A) (c : Answer C) → forget (beside (forget a) c) ≡ forget (beside a c)
  forget-left (ok a) (ok c) = refl
  forget-left (ok a) (refused n) = refl
  forget-left (refused m) (ok c) = refl
  forget-left (refused m) (refused n) = refl

  pub forget-right : (a : Answer A) (c : Answer C) → forget (beside a (forget c)) ≡ forget (beside a c)
  forget-right (ok a) (ok c) = refl
  forget-right (ok a) (refused n) = refl
  forget-right (refused m) (ok c) = refl
  forget-right (refused m) (refused n) = refl

right_same : {A C D : Type 0} (a : Answer A) (c : Answer C) (d : Answer D) → forget c ≡ forget d → forget (beside a c) ≡ forget (beside a d)
right_same a c d e = sym (forget-right a c) ∙ ap (λ (z : Answer (Unit {0})). forget (beside a z)) e ∙ forget-right a d

left_same : {A C D : Type 0} (a : Answer A) (b : Answer C) (d : Answer D) → forget a ≡ forget b → forget (beside a d) ≡ forget (beside b d)
left_same a b d e = sym (forget-left a d) ∙ ap (λ (z : Answer (Unit {0})). forget (beside z d)) e ∙ forget-left b d

-- ---- the parts, judged one after the other
module _ (s t w l e : Answer (Unit {0})) (S T W : Answer ℕ) (fw ft fs j : Answer (Unit {0}))
    (ps : s ≡ forget S) (pt : t ≡ forget T) (pw : w ≡ forget W)
    (qw : fw ≡ forget (beside w l)) (qt : ft ≡ forget (beside t fw)) (qs : fs ≡ forget (beside s ft)) (qj : j ≡ forget (beside fs e)) where
  pub arc_judged : j ≡ forget (arc_parts S T W l e)
  arc_judged =
      let hw : fw ≡ forget (beside W l) = qw ∙ rw pw (forget-left W l) in
      let ht : ft ≡ forget (beside T (beside W l)) = qt ∙ rw (pt, hw) (forget-beside T (beside W l)) in
      let hs : fs ≡ forget (beside S (beside T (beside W l))) = qs ∙ rw (ps, ht) (forget-beside S (beside T (beside W l))) in
      qj ∙ rw hs (forget-left (beside S (beside T (beside W l))) e)

-- ---- the line: the arc of its four fields, and the fields beside the end of the line
abbrev pub arc_of : ℕ × (ℕ × (ℕ × List (List ℕ))) → Arc ℕ
arc_of p = record { source = p.0; target = p.1.0; weight = p.1.1.0; labels = p.1.1.1 }

abbrev pub arc_fields : Answer ℕ → Answer ℕ → Answer ℕ → Answer (List (List ℕ)) → Answer (Unit {0}) → Answer (Arc ℕ × Unit {0})
arc_fields S T W L e = beside (beside S (beside T (beside W L)) >>= λ p. ok (arc_of p)) e

fields_forgot : (S T W : Answer ℕ) (L : Answer (List (List ℕ))) (l e : Answer (Unit {0})) → l ≡ forget L → forget (arc_parts S T W l e) ≡ forget (arc_fields S T W L e)
fields_forgot S T W L l e h =
    left_same (beside S (beside T (beside W l))) (beside S (beside T (beside W L)) >>= λ p. ok (arc_of p)) e
    (right_same S (beside T (beside W l)) (beside T (beside W L)) (right_same T (beside W l) (beside W L) (right_same W l L (forget_unit l ∙ h)))
    ∙ sym (forget_map (beside S (beside T (beside W L))) arc_of))

module _ (tapes states : ℕ) (x : List ℕ) (l : length x ≡ arc_width + tapes * label_width) where
  pub line_is : read_arc_line tapes states x ≡ (arc_fields (read_state_number states (take number_width x)) (read_state_number states (take number_width (drop number_width x))) (read_present (take amount_width (drop weight_column x)))
      (labels_read tapes (take (tapes * label_width) (drop labels_column x))) (require (eqb (get_or x (labels_column + tapes * label_width) 0) newline) form) >>= λ p. ok p.0)
  unfolding read_arc_line read_state_number read_present labels_read
  line_is =
      let w : number_width + (number_width + (amount_width + tapes * label_width)) ≡ labels_column + tapes * label_width = omega arith in
      rw (
        take-take number_width (number_width + (number_width + (amount_width + tapes * label_width))) x (omega arith),
        drop_take number_width (number_width + (amount_width + tapes * label_width)) x,
        take-take number_width (number_width + (amount_width + tapes * label_width)) (drop number_width x) (omega arith),
        drop_take number_width (amount_width + tapes * label_width) (drop number_width x),
        take-take amount_width (amount_width + tapes * label_width) (drop number_width (drop number_width x)) (omega arith),
        drop_take amount_width (tapes * label_width) (drop number_width (drop number_width x)),
        drop-drop amount_width number_width (drop number_width x),
        drop-drop number_width number_width x,
        drop-drop (number_width + amount_width) number_width x,
        w,
        line_end_is (labels_column + tapes * label_width) x (omega arith),
      )

module _ (tapes states : ℕ) (x : List ℕ) (len : length x ≡ arc_width + tapes * label_width) (S T W : Number) (jl je j : Judged)
    (ps : number_as S ≡ read_state_number states (take number_width x)) (pt : number_as T ≡ read_state_number states (take number_width (drop number_width x))) (pw : number_as W ≡ read_present (take amount_width (drop weight_column x)))
    (pl : judged_as jl ≡ forget (labels_read tapes (take (length x - 1 - labels_column) (drop labels_column x)))) (pe : judged_as je ≡ require (eqb (get_or x (length x - 1) 0) newline) form)
    (pj : judged_as j ≡ forget (arc_parts (number_as S) (number_as T) (number_as W) (judged_as jl) (judged_as je))) where
  last-place : length x - 1 ≡ labels_column + tapes * label_width
  last-place = omega arith

  label_places : length x - 1 - labels_column ≡ tapes * label_width
  label_places = omega arith

  line_parts : read_arc_line tapes states x ≡ (arc_fields (number_as S) (number_as T) (number_as W) (labels_read tapes (take (tapes * label_width) (drop labels_column x))) (judged_as je) >>= λ p. ok p.0)
  line_parts = line_is tapes states x len ∙ rw (← ps, ← pt, ← pw, pe, last-place)

  judged_fields : judged_as j ≡ forget (arc_fields (number_as S) (number_as T) (number_as W) (labels_read tapes (take (tapes * label_width) (drop labels_column x))) (judged_as je))
  judged_fields = pj ∙ fields_forgot (number_as S) (number_as T) (number_as W) (labels_read tapes (take (tapes * label_width) (drop labels_column x))) (judged_as jl) (judged_as je)
      (pl ∙ ap (λ (n : ℕ). forget (labels_read tapes (take n (drop labels_column x)))) label_places)

  pub arc-line_judged : judged_as j ≡ forget (read_arc_line tapes states x)
  arc-line_judged =
      judged_fields ∙ sym (forget_map (arc_fields (number_as S) (number_as T) (number_as W) (labels_read tapes (take (tapes * label_width) (drop labels_column x))) (judged_as je)) (λ p. p.0)) ∙ ap forget (sym line_parts)
