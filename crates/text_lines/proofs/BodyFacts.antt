-- Facts of what follows the header.
use mathlib.Core.Path.{◌≡◌, refl, sym, ap, ◌∙◌}
use mathlib.Core.Bool.{true, false}
use mathlib.Core.List.{List, [], ◌∷◌}
use Prim.Native.Nat.{ℕ, zero, suc, ◌+◌, ◌-◌, ◌*◌, ◌≤◌, ◌<◌}
use native.Mathlib.Omega.{arith}
use native.Mathlib.Nat.{zero-mul, suc-mul, add_comm}
use lib.ListN.{length, drop, length-drop, drop_of_length-le}
use lib.Seq.{drop-drop, drop-cons}
use Rattle.automata.specs.Answer.{◌>>=◌, Answer, ok, refused, require, forget}
use Rattle.automata.specs.Refusal.{form}
use Rattle.automata.specs.Format.{Format}
use Rattle.automata.specs.Sequence.{read_first, read_many}
use Rattle.automata.specs.TableText.{is_empty, state_line, arc_line}
use Rattle.automata.proofs.AnswerFacts.{refused≢ok}
use Rattle.automata.specs.Layout.{arc_width, header_width, label_width, state_width}
use Rattle.text_lines.specs.Lines.{states_judged, arcs_judged, body_judged}
use Rattle.table.proofs.SequenceFacts.{first_fits, many_next}
use Rattle.text_lines.proofs.SequenceFacts.{first_rest}

-- lines that are not refused leave what is behind them
abbrev Rest : {A : Type 0} → Format ℕ A → ℕ → List ℕ → Type 0
Rest {A} f n x = (v : List A) × (read_many f n x ≡ ok (v, drop (n * f.width) x)) × (n * f.width ≤ length x)

many_step : {A : Type 0} (f : Format ℕ A) (n : ℕ) (x : List ℕ) (v : A) (us : List A) → read_first f x ≡ ok (v, drop f.width x)
    → read_many f n (drop f.width x) ≡ ok (us, drop (n * f.width) (drop f.width x)) → read_many f (suc n) x ≡ ok (v ∷ us, drop (suc n * f.width) x)
many_step f n x v us e g = rw (e, g, drop-drop, suc-mul, add_comm (n * f.width))

many_rest : {A : Type 0} (f : Format ℕ A) (n : ℕ) (x : List ℕ) → forget (read_many f n x) ≡ ok tt → Rest f n x
many_rest f zero x e = ([], rw zero-mul refl, omega (arith, zero-mul f.width))
many_rest {A} f (suc n) x e = go (read_first f x) refl (λ y. many_rest f n y)
  where
    go : (a : Answer (A × List ℕ)) → read_first f x ≡ a → ((y : List ℕ) → forget (read_many f n y) ≡ ok tt → Rest f n y) → Rest f (suc n) x
    go (refused k) h ih = absurd (refused≢ok (sym (ap (λ (z : Answer (A × List ℕ)). forget {A = List A × List ℕ} (z >>= λ p. read_many f n p.1 >>= λ q. ok (p.0 ∷ q.0, q.1))) h) ∙ e))
    go (ok p) h ih =
        let w = f.width in
        let g : forget (read_first f x) ≡ ok tt = ap forget h in
        let r = first_rest f x g in
        let k = first_fits f x g in
        let s : suc n - 1 ≡ n = omega arith in
        let t : forget (read_many f n (drop w x)) ≡ ok tt = ap (λ (m : ℕ). forget (read_many f m (drop w x))) (sym s) ∙ many_next f x (suc n) (omega arith) g ∙ e in
        let i = ih (drop w x) t in
        (r.0 ∷ i.0, many_step f n x r.0 i.0 r.1 i.1, omega (arith, suc-mul n w, length-drop w x, i.2, k))

empty-none : (k : ℕ) (z : List ℕ) → length z ≤ k → is_empty (drop k z) ≡ true
empty-none k z h = let d : drop k z ≡ [] = drop_of_length-le z h in rw d

empty_some : (k : ℕ) (z : List ℕ) → k < length z → is_empty (drop k z) ≡ false
empty_some k z h = rw (drop-cons z k 0 h)

module _ (tapes n m : ℕ) (text : List ℕ) (h : header_width ≤ length text) where
  pub body_states : (k : ℕ) → refused k ≡ states_judged n (drop header_width text) → refused k ≡ body_judged tapes n m (drop header_width text)
  unfolding states_judged body_judged
  body_states k es = go (read_many state_line n (drop header_width text)) (sym es)
    where
      go : {A : Type 0} (a : Answer (A × List ℕ)) → forget a ≡ refused k → refused k ≡ (a >>= λ states. read_many (arc_line tapes n) m states.1 >>= λ arcs. require (is_empty arcs.1) form)
      go (ok p) e = absurd (refused≢ok (sym e))
      go (refused j) e = sym e

  module _ (es : ok tt ≡ states_judged n (drop header_width text)) where
    rest_of : Rest state_line n (drop header_width text)
    unfolding states_judged
    rest_of = many_rest state_line n (drop header_width text) (sym es)

    pub body_room : header_width + n * state_width ≤ length text
    body_room = omega (arith, rest_of.2, length-drop header_width text)

    behind : body_judged tapes n m (drop header_width text) ≡ (read_many (arc_line tapes n) m (drop (header_width + n * state_width) text) >>= λ arcs. require (is_empty arcs.1) form)
    unfolding body_judged
    behind = rw (rest_of.1, drop-drop (n * state_width) header_width text)

    pub body_arcs : (k : ℕ) → refused k ≡ arcs_judged tapes n m (drop (header_width + n * state_width) text) → refused k ≡ body_judged tapes n m (drop header_width text)
    unfolding arcs_judged
    body_arcs k ea = go (read_many (arc_line tapes n) m (drop (header_width + n * state_width) text)) (sym ea) ∙ sym behind
      where
        go : {A : Type 0} (a : Answer (A × List ℕ)) → forget a ≡ refused k → refused k ≡ (a >>= λ arcs. require (is_empty arcs.1) form)
        go (ok p) e = absurd (refused≢ok (sym e))
        go (refused j) e = sym e

    module _ (ea : ok tt ≡ arcs_judged tapes n m (drop (header_width + n * state_width) text)) where
      width_is : m * (arc_line tapes n).width ≡ m * (arc_width + tapes * label_width)
      width_is = let w : (arc_line tapes n).width ≡ arc_width + tapes * label_width = omega arith in ap (λ (k : ℕ). m * k) w

      arcs_rest : Rest (arc_line tapes n) m (drop (header_width + n * state_width) text)
      unfolding arcs_judged
      arcs_rest = many_rest (arc_line tapes n) m (drop (header_width + n * state_width) text) (sym ea)

      pub body_size : m * (arc_width + tapes * label_width) ≤ length text - (header_width + n * state_width)
      body_size = omega (arith, arcs_rest.2, width_is, length-drop (header_width + n * state_width) text)

      at_end : body_judged tapes n m (drop header_width text) ≡ require (is_empty (drop (m * (arc_width + tapes * label_width)) (drop (header_width + n * state_width) text))) form
      at_end = behind ∙ rw arcs_rest.1 (ap (λ (k : ℕ). require (is_empty (drop k (drop (header_width + n * state_width) text))) form) width_is)

      pub body_more : m * (arc_width + tapes * label_width) < length text - (header_width + n * state_width) → refused 2 ≡ body_judged tapes n m (drop header_width text)
      body_more l = sym (at_end ∙ rw (empty_some (m * (arc_width + tapes * label_width)) (drop (header_width + n * state_width) text) (rw (length-drop (header_width + n * state_width) text) l)))

      pub body_done : length text - (header_width + n * state_width) ≤ m * (arc_width + tapes * label_width) → ok tt ≡ body_judged tapes n m (drop header_width text)
      body_done l = sym (at_end ∙ rw (empty-none (m * (arc_width + tapes * label_width)) (drop (header_width + n * state_width) text) (rw (length-drop (header_width + n * state_width) text) l)))
