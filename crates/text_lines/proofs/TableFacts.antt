-- Facts of a text that is judged as a whole.
use mathlib.Core.Path.{◌≡◌, refl, sym, ◌∙◌}
use mathlib.Core.Bool.{Bool, true, false}
use mathlib.Core.List.{List}
use Prim.Native.Nat.{ℕ, ◌≤◌, ◌<◌}
use lib.ListN.{length, take, drop}
use lib.Seq.{length-take-le}
use borrow.Author.Tests.{le-leb, lt-leb}
use Rattle.automata.specs.Automaton.{State, Arc, Automaton}
use Rattle.automata.specs.Answer.{◌>>=◌, Answer, ok, refused, require}
use Rattle.automata.specs.Refusal.{form}
use Rattle.automata.specs.Table.{Counts}
use Rattle.automata.specs.Sequence.{read_many}
use Rattle.automata.specs.TableText.{is_empty, header_line, state_line, arc_line, read_table}
use Rattle.automata.proofs.SequenceFacts.{first-enough, many_only}
use Rattle.automata.proofs.TextFacts.{header_line_lawful, state_line_lawful, arc_line_lawful}
use Rattle.automata.specs.Layout.{header_width}
use Rattle.table.specs.declared.answer.Counts as CountsD
use Rattle.text_lines.specs.Lines.{read_header, body_judged, read_counts}

-- the counts of an automaton
abbrev counts_of : Automaton ℕ → Answer (ℕ × (ℕ × ℕ))
counts_of A = ok (A.tapes, (length A.states, length A.arcs))

-- lines that are not refused are as many as were asked for
module _ (t n m : ℕ) (y : List ℕ) (fits : n ≤ 1024) where
  abbrev arcs_of : List (State ℕ) × List ℕ → Answer (List (Arc ℕ) × List ℕ) → Answer (Automaton ℕ)
  arcs_of p b = b >>= λ arcs. require (is_empty arcs.1) form >>= λ e. ok (record { tapes = t; states = p.0; arcs = arcs.0 })

  arcs_counted : (p : List (State ℕ) × List ℕ) (b : Answer (List (Arc ℕ) × List ℕ)) → length p.0 ≡ n → read_many (arc_line t n) m p.1 ≡ b
      → (arcs_of p b >>= counts_of) ≡ ((b >>= λ arcs. require (is_empty arcs.1) form) >>= λ e. ok (t, (n, m)))
  arcs_counted p (refused k) l e = refl
  arcs_counted p (ok q) l e = go (is_empty q.1) (many_only (arc_line_lawful t n fits) m p.1 q e).0
    where
      go : (b : Bool) → length q.0 ≡ m → (require b form >>= (λ u. ok (record { tapes = t; states = p.0; arcs = q.0 })) >>= counts_of) ≡ (require b form >>= λ e. ok (t, (n, m)))
      go true k = rw (l, k)
      go false k = refl

  states_counted : (a : Answer (List (State ℕ) × List ℕ)) → read_many state_line n y ≡ a
      → ((a >>= λ states. arcs_of states (read_many (arc_line t n) m states.1)) >>= counts_of)
      ≡ ((a >>= λ states. read_many (arc_line t n) m states.1 >>= λ arcs. require (is_empty arcs.1) form) >>= λ e. ok (t, (n, m)))
  states_counted (refused k) e = refl
  states_counted (ok p) e = arcs_counted p (read_many (arc_line t n) m p.1) (many_only state_line_lawful n y p e).0 refl

  body_counted : ((read_many state_line n y >>= λ states. arcs_of states (read_many (arc_line t n) m states.1)) >>= counts_of) ≡ (body_judged t n m y >>= λ e. ok (t, (n, m)))
  unfolding body_judged
  body_counted = states_counted (read_many state_line n y) refl

module _ (S A : ℕ) (x : List ℕ) where
  pub text-short : length x < header_width → refused 1 ≡ read_counts S A x
  unfolding read_counts read_table
  text-short h = rw (lt-leb header_width (length x) h)

  module _ (l : header_width ≤ length x) where
    pub text_header : (k : ℕ) → refused k ≡ read_header (take header_width x) → refused k ≡ read_counts S A x
    unfolding read_counts read_table read_header
    text_header k e = sym (rw (first-enough header_line x l, ← e))

    module _ (c : CountsD.Counts) (e : ok (c.tapes, (c.states, c.arcs)) ≡ read_header (take header_width x)) where
      -- the counts of a header that is not refused are in range
      pub header_bounds : Counts c.tapes c.states c.arcs
      unfolding read_header
      header_bounds = (header_line_lawful.only (take header_width x) (c.tapes, (c.states, c.arcs)) (length-take-le header_width x l) (sym e)).0

      pub text_states : S < c.states → refused 8 ≡ read_counts S A x
      unfolding read_counts read_table read_header
      text_states h = sym (rw (first-enough header_line x l, ← e, lt-leb c.states S h))

      pub text_arcs : c.states ≤ S → A < c.arcs → refused 9 ≡ read_counts S A x
      unfolding read_counts read_table read_header
      text_arcs g h = sym (rw (first-enough header_line x l, ← e, le-leb c.states S g, lt-leb c.arcs A h))

      module _ (g : c.states ≤ S) (h : c.arcs ≤ A) where
        text_body : read_counts S A x ≡ (body_judged c.tapes c.states c.arcs (drop header_width x) >>= λ t. ok (c.tapes, (c.states, c.arcs)))
        unfolding read_counts read_table read_header
        text_body = rw (first-enough header_line x l, ← e, le-leb c.states S g, le-leb c.arcs A h) (body_counted c.tapes c.states c.arcs (drop header_width x) header_bounds.states_fit)

        pub text-refused : (k : ℕ) → refused k ≡ body_judged c.tapes c.states c.arcs (drop header_width x) → refused k ≡ read_counts S A x
        text-refused k p = sym (text_body ∙ rw (← p))

        pub text_fine : ok tt ≡ body_judged c.tapes c.states c.arcs (drop header_width x) → ok (c.tapes, (c.states, c.arcs)) ≡ read_counts S A x
        text_fine p = sym (text_body ∙ rw (← p))
