-- Facts of lines that are judged one after the other.
use mathlib.Core.Path.{◌≡◌, refl, sym, ap, ◌∙◌}
use mathlib.Core.Bool.{Bool, true, false}
use mathlib.Core.List.{List}
use Prim.Native.Nat.{ℕ, ◌+◌, ◌-◌, ◌*◌, ◌≤◌, ◌<◌}
use native.Mathlib.Omega.{arith}
use lib.Dec.{leb}
use lib.ListN.{length, take, drop}
use Rattle.automata.specs.Answer.{◌>>=◌, Answer, ok, refused, require, forget}
use Rattle.automata.specs.Refusal.{short}
use Rattle.automata.specs.Format.{Format}
use Rattle.automata.specs.Sequence.{read_first}
use Rattle.automata.specs.TableText.{state_line, arc_line}
use Rattle.automata.proofs.AnswerFacts.{refused≢ok}
use Rattle.automata.specs.Layout.{arc_width, label_width, state_width}
use Rattle.table.specs.Answers.{Judged, judged_as}
use Rattle.table.proofs.SequenceFacts.{many_stop, many_none, at_short, at_value, at_next}
use Rattle.text_lines.specs.Lines.{read_state_line, read_arc_line, first_state, states_judged, first_arc, arcs_judged}

-- a line that is not refused, and what follows it
module _ {A : Type 0} (f : Format ℕ A) (x : List ℕ) where
  pub first_rest : forget (read_first f x) ≡ ok tt → (v : A) × (read_first f x ≡ ok (v, drop f.width x))
  first_rest e = go (leb f.width (length x)) (f.read (take f.width x)) e
    where
      go : (b : Bool) (a : Answer A) → forget {A = A × List ℕ} (require b short >>= λ t. a >>= λ v. ok (v, drop f.width x)) ≡ ok tt
          → (v : A) × (◌≡◌ {A = Answer (A × List ℕ)} (require b short >>= λ t. a >>= λ v. ok (v, drop f.width x)) (ok (v, drop f.width x)))
      go true (ok v) k = (v, refl)
      go true (refused n) k = absurd (refused≢ok k)
      go false a k = absurd (refused≢ok k)

-- ---- state lines
module _ (text : List ℕ) (at : ℕ) (h : at ≤ length text) where
  pub state-short : length text - at < state_width → refused 1 ≡ first_state (drop at text)
  unfolding first_state
  state-short k = at_short state_line state_width refl text at h k

  pub state_judged : (j : Judged) → state_width ≤ length text - at → judged_as j ≡ forget (read_state_line (take (at + state_width - at) (drop at text))) → judged_as j ≡ first_state (drop at text)
  unfolding first_state read_state_line
  state_judged j k e =
      let n : at + state_width - at ≡ state_width = omega arith in
      e ∙ ap (λ (m : ℕ). forget (read_state_line (take m (drop at text)))) n ∙ at_value state_line state_width refl text at h k

  module _ (left : ℕ) (p : 0 < left) where
    pub states_refused : (k : ℕ) → refused k ≡ first_state (drop at text) → refused k ≡ states_judged left (drop at text)
    unfolding first_state states_judged
    states_refused k e = many_stop state_line (drop at text) left k p (sym e)

    pub states_turn : ok tt ≡ first_state (drop at text)
        → (at + state_width ≤ length text) × (states_judged (left - 1) (drop (at + state_width) text) ≡ states_judged left (drop at text))
    unfolding first_state states_judged
    states_turn e = at_next state_line state_width refl text at h left p (sym e)

pub states_done : (n : ℕ) (x : List ℕ) → n ≡ 0 → ok tt ≡ states_judged n x
unfolding states_judged
states_done n x e = many_none state_line x n e

-- ---- arc lines
module _ (tapes states : ℕ) (text : List ℕ) (at : ℕ) (h : at ≤ length text) where
  width_is : (arc_line tapes states).width ≡ arc_width + tapes * label_width
  width_is = omega arith

  pub arc-short : length text - at < arc_width + tapes * label_width → refused 1 ≡ first_arc tapes states (drop at text)
  unfolding first_arc
  arc-short k = at_short (arc_line tapes states) (arc_width + tapes * label_width) width_is text at h k

  pub arc_at_judged : (j : Judged) → arc_width + tapes * label_width ≤ length text - at → judged_as j ≡ forget (read_arc_line tapes states (take (at + (arc_width + tapes * label_width) - at) (drop at text)))
      → judged_as j ≡ first_arc tapes states (drop at text)
  unfolding first_arc read_arc_line
  arc_at_judged j k e =
      let n : at + (arc_width + tapes * label_width) - at ≡ arc_width + tapes * label_width = omega arith in
      e ∙ ap (λ (m : ℕ). forget ((arc_line tapes states).read (take m (drop at text)))) n ∙ at_value (arc_line tapes states) (arc_width + tapes * label_width) width_is text at h k

  module _ (left : ℕ) (p : 0 < left) where
    pub arcs_refused : (k : ℕ) → refused k ≡ first_arc tapes states (drop at text) → refused k ≡ arcs_judged tapes states left (drop at text)
    unfolding first_arc arcs_judged
    arcs_refused k e = many_stop (arc_line tapes states) (drop at text) left k p (sym e)

    pub arcs_turn : ok tt ≡ first_arc tapes states (drop at text)
        → (at + (arc_width + tapes * label_width) ≤ length text) × (arcs_judged tapes states (left - 1) (drop (at + (arc_width + tapes * label_width)) text) ≡ arcs_judged tapes states left (drop at text))
    unfolding first_arc arcs_judged
    arcs_turn e = at_next (arc_line tapes states) (arc_width + tapes * label_width) width_is text at h left p (sym e)

pub arcs_done : (tapes states n : ℕ) (x : List ℕ) → n ≡ 0 → ok tt ≡ arcs_judged tapes states n x
unfolding arcs_judged
arcs_done tapes states n x e = many_none (arc_line tapes states) x n e
