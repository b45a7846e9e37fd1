-- A table in memory, printed by the call `write`: there is always room for it.
use mathlib.Core.Path.{◌≡◌, refl, sym, ap, ap₂, ◌∙◌}
use mathlib.Core.List.{List}
use Prim.Native.Nat.{ℕ, ◌+◌, ◌*◌, ◌≤◌}
use native.Mathlib.Omega.{arith}
use native.Mathlib.Nat.{mul-le-mul}
use lib.ListN.{length}
use borrow.Author.Tests.{le-leb}
use Rattle.automata.specs.Refusal
use Rattle.automata.specs.Answer.{Answer, ok, refused}
use Rattle.automata.specs.Automaton.{Automaton}
use Rattle.automata.specs.Limits.{max_tapes}
use Rattle.automata.specs.Memory.{Memory, decode_table}
use Rattle.automata.specs.TableText.{write_table}
use Rattle.automata.specs.AgreeText.{arc_space, state_space, write_output}
use Rattle.automata.specs.Calls.Outcome.{Written, overwrite, print}
use Rattle.automata.specs.Calls.Work.{enough}
use Rattle.automata.specs.Calls.Write.{write_outcome}
use Rattle.automata.proofs.AnswerFacts.{refused≢ok, judge-goes_on}
use Rattle.automata.proofs.MemoryFacts.{decode_only}
use Rattle.automata.proofs.SoundFacts.{sound, sound_states_lent, sound_arcs_lent}
use Rattle.automata.proofs.TextFacts.{length_write_table}
use Rattle.automata.proofs.CallSteps.{write_table-refused, write_judged}
use Rattle.automata.specs.Layout.{arc_width, header_width, label_width, state_width}
use Rattle.table.specs.declared.answer.Refusal.{Refusal}
use Rattle.table.specs.Answers.{refusal_number}
use Rattle.std.specs.Prelude.{Ok, Err}
use Rattle.text.specs.Answers.{WriteAnswer}
use Rattle.text.specs.Answers.{written_as, written_of}
use Rattle.agree_text.specs.Kept.{arcs_lent, output_lent, states_lent}
use Rattle.agree_text.specs.Wrote.{Wrote}

-- the longest text
longest : (n k t : ℕ) → n ≤ state_space → k ≤ arc_space → t ≤ max_tapes → header_width + n * state_width + k * (arc_width + t * label_width) ≤ output_lent
longest n k t a b c =
    let w : arc_width + t * label_width ≤ arc_width + max_tapes * label_width = omega arith in
    let p : k * (arc_width + t * label_width) ≤ arc_space * (arc_width + max_tapes * label_width) = mul-le-mul b w in
    omega (arith, p, a)

-- the text that is written of what memory holds
abbrev text_of : Answer (Automaton ℕ) → Answer (List ℕ)
text_of (ok A) = ok (write_table A)
text_of (refused n) = refused n

module _ (m : Memory) (hs : length m.state_bytes ≤ states_lent) (ha : length m.arc_bytes ≤ arcs_lent) (out : List ℕ) (ho : output_lent ≤ length out) where
  text_fits : (A : Automaton ℕ) → decode_table m ≡ ok A → length (write_table A) ≤ length out
  text_fits A e =
      let d = decode_only m A e in
      let s = sound m A e in
      let n : length A.states ≤ state_space = omega (arith, sound_states_lent m s, d.1.states, hs) in
      let k : length A.arcs ≤ arc_space = omega (arith, sound_arcs_lent m s, d.1.arcs, ha) in
      let l = length_write_table A d.0 in
      let f = longest (length A.states) (length A.arcs) A.tapes n k d.0.counts.tapes_fit in
      omega (arith, l, f, ho)

  -- what `write` answers, by what the memory holds
  printed : (a : Answer (Automaton ℕ)) → decode_table m ≡ a → write_outcome m out ≡ print (text_of a) out
  printed (ok A) e = write_judged m A e out ∙ ap (λ (r : Answer (List ℕ)). print r out)
      (judge-goes_on (enough (length (write_table A)) out) Refusal.space (ok (write_table A)) (le-leb (length (write_table A)) (length out) (text_fits A e)))
  printed (refused n) e = write_table-refused m n e out

  module _ (r : WriteAnswer) (after : List ℕ) (q : written_of (written_as r) after ≡ write_outcome m out) where
    -- a number of bytes: the text of the table
    pub print_done : (n : ℕ) → r ≡ Ok n → Wrote (write_output (decode_table m)) out after n
    unfolding write_output print
    print_done n f = go (decode_table m) (ap (λ (z : WriteAnswer). written_of (written_as z) after) (sym f) ∙ q ∙ printed (decode_table m) refl)
      where
        go : (a : Answer (Automaton ℕ)) → written_of (ok n) after ≡ print (text_of a) out → Wrote (write_output a) out after n
        go (ok A) e = (ap (λ (w : Written). w.output) e, let k : ok n ≡ ok (length (write_table A)) = ap (λ (w : Written). w.answer) e in cc)
        go (refused k) e = absurd (refused≢ok (sym (ap (λ (w : Written). w.answer) e)))

    -- a refusal: the output is as it was, and the line of the refusal is written over it
    pub print-refused : (k : Refusal) → r ≡ Err k → (last : List ℕ) (n : ℕ) → Wrote (write_output (refused (refusal_number k))) after last n
        → Wrote (write_output (decode_table m)) out last n
    unfolding print
    print-refused k f last n w = go (decode_table m) (ap (λ (z : WriteAnswer). written_of (written_as z) after) (sym f) ∙ q ∙ printed (decode_table m) refl)
      where
        go : (a : Answer (Automaton ℕ)) → written_of (refused (refusal_number k)) after ≡ print (text_of a) out → Wrote (write_output a) out last n
        go (ok A) e = absurd (refused≢ok (ap (λ (w : Written). w.answer) e))
        go (refused j) e =
            let i : after ≡ out = ap (λ (w : Written). w.output) e in
            let c : ◌≡◌ {A = Answer ℕ} (refused (refusal_number k)) (refused j) = ap (λ (w : Written). w.answer) e in
            let d : refusal_number k ≡ j = cc in
            (w.0 ∙ ap₂ (λ (u : ℕ) (v : List ℕ). overwrite (write_output (refused u)) v) d i, w.1 ∙ ap (λ (u : ℕ). length (write_output (refused u))) d)
