-- Facts of the call `write`: the text of the table, or its refusal.
use mathlib.Core.Path.{◌≡◌, sym, ap, ap₂, ◌∙◌}
use mathlib.Core.List.{List}
use Prim.Native.Nat.{ℕ, ◌+◌, ◌*◌, ◌≤◌, ◌<◌}
use native.Mathlib.Omega.{arith}
use native.Mathlib.Nat.{mul-le-mul}
use borrow.Author.Tests.{le-leb, lt-leb}
use lib.ListN.{length}
use Rattle.automata.specs.Answer.{Answer, ok, refused, forget}
use Rattle.automata.specs.TableText.{write_table}
use Rattle.automata.specs.Memory.{Memory, Sound, table_of, decode_table}
use Rattle.automata.specs.Calls.Outcome.{overwrite, print}
use Rattle.automata.specs.Calls.Write.{write_answer, write_outcome}
use Rattle.automata.proofs.AnswerFacts.{refused≢ok}
use Rattle.automata.proofs.SoundFacts.{sound, sound_decoded, sound_holds, sound_well_formed}
use Rattle.automata.proofs.TextFacts.{length_write_table}
use Rattle.automata.specs.Layout.{arc_width, header_width, label_width, state_width}
use Rattle.table.proofs.AnswerFacts.{forget-ok}
use Rattle.text.specs.Answers.{written_of}

-- the length of n states and m arcs, of t tapes, in range
pub text_fits : (t n m : ℕ) → t ≤ 8 → n ≤ 1024 → m ≤ 8192 → m * (arc_width + t * label_width) ≤ 8192 * (arc_width + 8 * label_width)
text_fits t n m ht hn hm = mul-le-mul hm (let k : arc_width + t * label_width ≤ arc_width + 8 * label_width = omega arith in k)

refused_same : {A : Type 0} (r : Answer A) (k : ℕ) → forget r ≡ refused k → r ≡ refused k
refused_same (ok a) k e = absurd (refused≢ok (sym e))
refused_same (refused j) k e = let q : j ≡ k = cc in ap refused q

-- a table that was judged and is fine
pub judged_sound : (m : Memory) → ok tt ≡ forget (decode_table m) → Sound m
judged_sound m e = let a = forget-ok (decode_table m) (sym e) in sound m a.0 a.1

-- its text has the length that its counts say
pub text_length : (m : Memory) → Sound m → length (write_table (table_of m)) ≡ header_width + m.states * state_width + m.arcs * (arc_width + m.tapes * label_width)
text_length m s =
    let h = sound_holds m s in
    length_write_table (table_of m) (sound_well_formed m s) ∙ rw (← h.tapes, ← h.states, ← h.arcs)

module _ (m : Memory) (out : List ℕ) where
  pub write_refused : (k : ℕ) → refused k ≡ forget (decode_table m) → written_of (refused k) out ≡ write_outcome m out
  unfolding write_outcome write_answer print
  write_refused k e = let d : decode_table m ≡ refused k = refused_same (decode_table m) k (sym e) in rw d

  module _ (s : Sound m) where
    pub write_short : length out < header_width + m.states * state_width + m.arcs * (arc_width + m.tapes * label_width) → written_of (refused 13) out ≡ write_outcome m out
    unfolding write_outcome write_answer print
    write_short h = rw (sound_decoded m s, lt-leb (length (write_table (table_of m))) (length out) (omega (arith, text_length m s)))

    pub write_done : (n : ℕ) (us : List ℕ) → n ≡ header_width + m.states * state_width + m.arcs * (arc_width + m.tapes * label_width) → n ≤ length out → us ≡ overwrite (write_table (table_of m)) out
        → written_of (ok n) us ≡ write_outcome m out
    unfolding write_outcome write_answer print
    write_done n us e h f =
        let l : n ≡ length (write_table (table_of m)) = e ∙ sym (text_length m s) in
        rw (sound_decoded m s, le-leb (length (write_table (table_of m))) (length out) (omega arith)) (ap₂ written_of (ap ok l) f)
