-- Facts of the header of a table.
use mathlib.Core.Path.{◌≡◌, refl, sym, ap, ◌∙◌}
use mathlib.Core.Bool.{Bool, true, false}
use mathlib.Core.List.{List}
use Prim.Native.Nat.{ℕ}
use native.Mathlib.Omega.{arith}
use lib.Dec.{eqb}
use lib.ListN.{length, take, drop, get_or, length-drop}
use lib.Seq.{drop-drop, take-take, length-take-le}
use Rattle.automata.specs.Answer.{◌>>=◌, Answer, ok, check, require, beside, forget}
use Rattle.automata.specs.Refusal.{form, size}
use Rattle.automata.specs.Decimal.{decimal}
use Rattle.automata.specs.Table.{counts_fit}
use Rattle.automata.proofs.AnswerFacts.{refused≢ok, beside-ok, bind_ok, check-ok, forget-beside, refused_map}
use Rattle.automata.specs.Layout.{header_end, header_width, newline, number_width, tapes_width, arcs_column}
use Rattle.std.specs.Prelude.{Ok, Err}
use Rattle.std.specs.Result.{result_and, result_unwrap_or}
use Rattle.table.specs.Answers.{Judged, judged_as, refusal_number}
use Rattle.table.specs.declared.answer.Counts.{Counts}
use Rattle.table.proofs.AnswerFacts.{forget-ok}
use Rattle.text_columns.specs.Columns.{Number, number_as, read_decimal}
use Rattle.text_lines.specs.Lines.{header_as, read_header, counts_judged}
use Rattle.text_lines.proofs.LineFacts.{drop_take, line_end_is}
use Rattle.text_lines.proofs.ArcFacts.{forget-left}

-- ---- the line
abbrev fits : ℕ × (ℕ × ℕ) → Answer (ℕ × (ℕ × ℕ))
fits h = check (counts_fit h.0 h.1.0 h.1.1) size h

abbrev header_parts : Answer ℕ → Answer ℕ → Answer ℕ → Answer (Unit {0}) → Answer ((ℕ × (ℕ × ℕ)) × Unit {0})
header_parts T S A e = beside (beside T (beside S A) >>= fits) e

decimal_at : (w : ℕ) (y : List ℕ) → length y ≡ w → read_decimal y ≡ (decimal w).read y
unfolding read_decimal
decimal_at w y e = ap (λ (k : ℕ). (decimal k).read y) e

header_is : (x : List ℕ) → length x ≡ header_width → read_header x ≡ (header_parts ((decimal tapes_width).read (take tapes_width x)) ((decimal number_width).read (take number_width (drop tapes_width x))) ((decimal number_width).read (take number_width (drop arcs_column x)))
    (require (eqb (get_or x header_end 0) newline) form) >>= λ p. ok p.0)
unfolding read_header
header_is x l =
    rw (
      take-take tapes_width header_end x (omega arith),
      drop_take tapes_width 12 x,
      take-take number_width 12 (drop tapes_width x) (omega arith),
      drop_take number_width number_width (drop tapes_width x),
      drop-drop number_width tapes_width x,
      line_end_is header_end x l,
    )

-- the number alone, 0 where it is refused
abbrev pub value_of : Number → ℕ
value_of n = result_unwrap_or n 0

counts_forgot : (T S A : Number) → (forget (beside (number_as T) (beside (number_as S) (number_as A))) >>= λ t. require (counts_fit (value_of T) (value_of S) (value_of A)) size)
    ≡ forget (beside (number_as T) (beside (number_as S) (number_as A)) >>= fits)
counts_forgot (Ok t) (Ok s) (Ok a) = go (counts_fit t s a)
  where
    go : (b : Bool) → require b size ≡ forget {A = ℕ × (ℕ × ℕ)} (check b size (t, (s, a)))
    go true = refl
    go false = refl
counts_forgot (Ok t) (Ok s) (Err k) = refl
counts_forgot (Ok t) (Err j) (Ok a) = refl
counts_forgot (Ok t) (Err j) (Err k) = refl
counts_forgot (Err i) (Ok s) (Ok a) = refl
counts_forgot (Err i) (Ok s) (Err k) = refl
counts_forgot (Err i) (Err j) (Ok a) = refl
counts_forgot (Err i) (Err j) (Err k) = refl

known : (n : Number) (v : ℕ) → number_as n ≡ ok v → value_of n ≡ v
known (Ok n) v e = cc
known (Err k) v e = absurd (refused≢ok e)

header_read : (T S A : Number) (e : Answer (Unit {0})) → forget (header_parts (number_as T) (number_as S) (number_as A) e) ≡ ok tt
    → ok (value_of T, (value_of S, value_of A)) ≡ (header_parts (number_as T) (number_as S) (number_as A) e >>= λ p. ok p.0)
header_read T S A e h =
    let z = forget-ok (header_parts (number_as T) (number_as S) (number_as A) e) h in
    let b = beside-ok (beside (number_as T) (beside (number_as S) (number_as A)) >>= fits) e z.0 z.1 in
    let q = bind_ok (beside (number_as T) (beside (number_as S) (number_as A))) fits z.0.0 b.0 in
    let c = check-ok (counts_fit q.0.0 q.0.1.0 q.0.1.1) size q.0 z.0.0 q.2 in
    let t = beside-ok (number_as T) (beside (number_as S) (number_as A)) q.0 q.1 in
    let s = beside-ok (number_as S) (number_as A) q.0.1 t.1 in
    rw (z.1, known T q.0.0 t.0, known S q.0.1.0 s.0, known A q.0.1.1 s.1) (ap ok c.1)

module _ (x : List ℕ) (l : length x ≡ header_width) (T S A : Number) (jt js ja jsa jc jf je j : Judged) (nt ns na : ℕ)
    (pt : number_as T ≡ read_decimal (take tapes_width x)) (ps : number_as S ≡ read_decimal (take number_width (drop tapes_width x))) (pa : number_as A ≡ read_decimal (take number_width (drop arcs_column x)))
    (qt : judged_as jt ≡ forget (number_as T)) (qs : judged_as js ≡ forget (number_as S)) (qa : judged_as ja ≡ forget (number_as A))
    (qsa : judged_as jsa ≡ forget (beside (judged_as js) (judged_as ja))) (qc : judged_as jc ≡ forget (beside (judged_as jt) (judged_as jsa)))
    (vt : nt ≡ value_of T) (vs : ns ≡ value_of S) (va : na ≡ value_of A)
    (qf : judged_as jf ≡ counts_judged (judged_as jc) nt ns na) (qe : judged_as je ≡ require (eqb (get_or x header_end 0) newline) form)
    (qj : judged_as j ≡ forget (beside (judged_as jf) (judged_as je))) where
  header_parts_lem : read_header x ≡ (header_parts (number_as T) (number_as S) (number_as A) (judged_as je) >>= λ p. ok p.0)
  header_parts_lem =
      let dt : number_as T ≡ (decimal tapes_width).read (take tapes_width x) = pt ∙ decimal_at tapes_width (take tapes_width x) (length-take-le tapes_width x (omega arith)) in
      let ds : number_as S ≡ (decimal number_width).read (take number_width (drop tapes_width x)) = ps ∙ decimal_at number_width (take number_width (drop tapes_width x)) (length-take-le number_width (drop tapes_width x) (simp length-drop (omega arith))) in
      let da : number_as A ≡ (decimal number_width).read (take number_width (drop arcs_column x)) = pa ∙ decimal_at number_width (take number_width (drop arcs_column x)) (length-take-le number_width (drop arcs_column x) (simp length-drop (omega arith))) in
      header_is x l ∙ rw (← dt, ← ds, ← da, ← qe)

  judged_parts : judged_as j ≡ forget (header_parts (number_as T) (number_as S) (number_as A) (judged_as je))
  judged_parts =
      let c : judged_as jc ≡ forget (beside (number_as T) (beside (number_as S) (number_as A))) =
      qc ∙ rw (qt, qsa, qs, qa) (ap (λ (z : Answer (Unit {0})). forget (beside (forget (number_as T)) z)) (forget-beside (number_as S) (number_as A)) ∙ forget-beside (number_as T) (beside (number_as S) (number_as A))) in
      let f : judged_as jf ≡ forget (beside (number_as T) (beside (number_as S) (number_as A)) >>= fits) = qf ∙ rw (c, vt, vs, va) (counts_forgot T S A) in
      qj ∙ rw f (forget-left (beside (number_as T) (beside (number_as S) (number_as A)) >>= fits) (judged_as je))

  pub header_judged : (c : Counts) → c.tapes ≡ nt → c.states ≡ ns → c.arcs ≡ na → header_as (result_and j (Ok c)) ≡ read_header x
  header_judged c et es ea = go j judged_parts
    where
      go : (k : Judged) → judged_as k ≡ forget (header_parts (number_as T) (number_as S) (number_as A) (judged_as je)) → header_as (result_and k (Ok c)) ≡ read_header x
      go (Ok u) f = rw (et, es, ea, vt, vs, va) (header_read T S A (judged_as je) (sym f) ∙ sym header_parts_lem)
      go (Err k) f = refused_map (header_parts (number_as T) (number_as S) (number_as A) (judged_as je)) (λ p. p.0) (refusal_number k) (sym f) ∙ sym header_parts_lem
