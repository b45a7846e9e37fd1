-- The text of a table: it is read as that table, no other text is, and how long it is.
use mathlib.Core.Path.{◌≡◌, refl, sym, ap, ap₂, subst, ◌∙◌}
use mathlib.Core.Bool.{Bool, true, false}
use mathlib.Core.List.{List, [], ◌∷◌, ◌++◌, append-nil}
use Prim.Native.Nat.{ℕ, zero, suc, ◌+◌, ◌-◌, ◌*◌, ◌≤◌}
use native.Mathlib.Omega.{arith}
use lib.Dec.{T, leb, eqb, leb→le, le→leb, eqb→eq, lit<, lit≤}
use lib.ListN.{length, length-replicate, length-append}
use Rattle.automata.specs.Lists.{if, all, Each}
use Rattle.automata.specs.Automaton.{State, Arc, Automaton}
use Rattle.automata.specs.Answer.{ok}
use Rattle.automata.specs.Refusal.{size, form, states_full, arcs_full}
use Rattle.automata.specs.Records.{write_all}
use Rattle.automata.specs.Sequence.{read_first, read_many}
use Rattle.automata.specs.Decimal.{decimal, blank}
use Rattle.automata.specs.Limits.{max_states, max_label}
use Rattle.automata.specs.Table.{Weight, Label, Counts, counts_fit, WellFormedState, WellFormed, WellFormedArc}
use Rattle.automata.specs.Symbols.{is_symbol}
use Rattle.automata.specs.TableFormat.{weight_number}
use Rattle.automata.specs.TableText.{blanks, symbols, after_blanks, label_columns, absent, weight_columns, header_line, state_line, arc_line, write_table, is_empty, read_table}
use Rattle.automata.proofs.TestFacts.{T_true, and_T, eqb_false}
use Rattle.automata.proofs.AnswerFacts.{check-ok, check_pass, bind_ok, require-ok}
use Rattle.automata.proofs.FormatFacts.{Lawful, pair_lawful, restrict_lawful, preceded_lawful, followed_lawful, length_many, copies_lawful, optional_lawful}
use Rattle.automata.proofs.SequenceFacts.{first_reads, first-only, many_reads, many_reads_end, many_only}
use Rattle.automata.proofs.NumberFacts.{decimal_lawful}
use Rattle.automata.proofs.TableFacts.{counts_fit→Counts, Counts→counts_fit, state_format_lawful, state_number_lawful, weight_number_lawful, arc_format_lawful}
use Rattle.automata.specs.Layout.{amount_width, arc_width, header_width, label_width, newline, number_width, state_width, tapes_width}

-- ---- a label: blanks, then its symbols

-- a label stands behind its blanks
after_blanks-blanks : (n : ℕ) (l : List ℕ) → T (all is_symbol l) → after_blanks (blanks n ++ l) ≡ l
after_blanks-blanks zero [] t = refl
after_blanks-blanks zero (c ∷ l) t =
    let s = and_T (is_symbol c) (all is_symbol l) t in
    rw (eqb_false c blank (λ e. rw e at s.0))
after_blanks-blanks (suc n) l t = after_blanks-blanks n l t

-- a list is the blanks before its first other byte, and what follows
abbrev Split : List ℕ → List ℕ → Type 0
Split x y = (length y ≤ length x) × (x ≡ blanks (length x - length y) ++ y)

after_blanks_split : (x : List ℕ) → Split x (after_blanks x)
after_blanks_split [] = (lit≤ tt, refl)
after_blanks_split (c ∷ x) = go (after_blanks x) (after_blanks_split x) (eqb c blank) refl
  where
    go : (y : List ℕ) → Split x y → (b : Bool) → eqb c blank ≡ b → Split (c ∷ x) (if b y (c ∷ x))
    go y s true e =
        let q : suc (length x) - length y ≡ suc (length x - length y) = omega arith in
        let k : c ≡ blank = eqb→eq c blank (rw e tt) in
        (omega arith, rw (q, k) (ap (λ (z : List ℕ). blank ∷ z) s.1))
    go y s false e =
        let q : suc (length x) - suc (length x) ≡ 0 = omega arith in
        (omega arith, rw q)

pub symbols_lawful : (w : ℕ) → Lawful (symbols w) (λ l. (length l ≤ w) × T (all is_symbol l))
symbols_lawful w = record {
  sized = λ l v. length-append (blanks (w - length l)) l ∙ rw length-replicate (omega arith);
  reads = λ l v. rw (after_blanks-blanks (w - length l) l v.1) (check_pass (all is_symbol l) form l v.1);
  only = λ x l e r.
      let c = check-ok (all is_symbol (after_blanks x)) form (after_blanks x) l r in
      let s = after_blanks_split x in
      rw (← c.1) ((rw (← e) s.0, c.0), rw (← e) s.1);
}

pub label_columns_lawful : Lawful label_columns Label
label_columns_lawful = preceded_lawful (blank ∷ []) (symbols_lawful max_label)

-- ---- a weight that may be absent: nine blanks and a minus sign where it is

weight_lawful : Lawful (weight_number (decimal amount_width)) Weight
weight_lawful = weight_number_lawful (decimal_lawful amount_width) (lit< tt)

pub weight_columns_lawful : Lawful weight_columns (Each Weight)
weight_columns_lawful = optional_lawful weight_lawful absent refl form refl

-- ---- the three kinds of lines

pub header_line_lawful : Lawful header_line (λ h. Counts h.0 h.1.0 h.1.1)
header_line_lawful = followed_lawful (newline ∷ []) (restrict_lawful (λ h. counts_fit h.0 h.1.0 h.1.1) size
    (pair_lawful (decimal_lawful tapes_width) (pair_lawful (decimal_lawful number_width) (decimal_lawful number_width)))
    (λ h c. ((omega arith, (omega arith, omega arith)), Counts→counts_fit h.0 h.1.0 h.1.1 c))
    (λ h v t. counts_fit→Counts h.0 h.1.0 h.1.1 t))

pub state_line_lawful : Lawful state_line WellFormedState
state_line_lawful = followed_lawful (newline ∷ []) (state_format_lawful weight_columns_lawful)

pub arc_line_lawful : (tapes states : ℕ) → states ≤ max_states → Lawful (arc_line tapes states) (WellFormedArc tapes states)
arc_line_lawful tapes states h =
    followed_lawful (newline ∷ []) (arc_format_lawful (state_number_lawful states (decimal_lawful number_width) (omega arith)) weight_lawful (copies_lawful label_columns_lawful tapes))

-- ---- a table

-- the text of a table is read as that table, where there is space for it
pub read_write : (state_space arc_space : ℕ) (t : Automaton ℕ) → WellFormed t → length t.states ≤ state_space → length t.arcs ≤ arc_space
    → read_table state_space arc_space (write_table t) ≡ ok t
unfolding read_table write_table
read_write state_space arc_space t w hs ha =
    let n = length t.states in
    let k = length t.arcs in
    let arc_text = write_all (arc_line t.tapes n).write t.arcs in
    let rest = write_all state_line.write t.states ++ arc_text in
    rw (
      first_reads header_line_lawful (t.tapes, (n, k)) rest w.counts,
      T_true (leb n state_space) (le→leb n state_space hs),
      T_true (leb k arc_space) (le→leb k arc_space ha),
      many_reads state_line_lawful t.states arc_text w.states,
      many_reads_end (arc_line_lawful t.tapes n w.counts.states_fit) t.arcs w.arcs,
    )

is_empty_nil : (x : List ℕ) → T (is_empty x) → x ≡ []
is_empty_nil [] t = refl
is_empty_nil (c ∷ x) t = absurd t

module _ (x : List ℕ) (h : (ℕ × (ℕ × ℕ)) × List ℕ) (states : List (State ℕ) × List ℕ) (arcs : List (Arc ℕ) × List ℕ) where
  -- what the lines say, where none is refused
  lines-only : read_first header_line x ≡ ok h → read_many state_line h.0.1.0 h.1 ≡ ok states
      → read_many (arc_line h.0.0 h.0.1.0) h.0.1.1 states.1 ≡ ok arcs → T (is_empty arcs.1)
      → (t : Automaton ℕ) → record { tapes = h.0.0; states = states.0; arcs = arcs.0 } ≡ t
      → WellFormed t × (x ≡ write_table t) × (length t.states ≡ h.0.1.0) × (length t.arcs ≡ h.0.1.1)
  unfolding write_table
  lines-only p q r e t d =
      let c = first-only header_line_lawful x h p in
      let s = many_only state_line_lawful h.0.1.0 h.1 states q in
      let a = many_only (arc_line_lawful h.0.0 h.0.1.0 c.0.states_fit) h.0.1.1 states.1 arcs r in
      let text : ℕ → ℕ → List ℕ = λ n k. header_line.write (h.0.0, (n, k)) ++ (write_all state_line.write states.0 ++ write_all (arc_line h.0.0 n).write arcs.0) in
      let z : arcs.1 ≡ [] = is_empty_nil arcs.1 e in
      let y : x ≡ text h.0.1.0 h.0.1.1 =
      c.1 ∙ ap (λ (l : List ℕ). header_line.write h.0 ++ l)
      (s.2 ∙ ap (λ (l : List ℕ). write_all state_line.write states.0 ++ l)
      (a.2 ∙ ap (λ (l : List ℕ). write_all (arc_line h.0.0 h.0.1.0).write arcs.0 ++ l) z ∙ append-nil _)) in
      subst (λ (u : Automaton ℕ). WellFormed u × (x ≡ write_table u) × (length u.states ≡ h.0.1.0) × (length u.arcs ≡ h.0.1.1)) d
      (record { counts = rw (s.0, a.0) c.0; states = s.1; arcs = rw s.0 a.1 }, y ∙ ap₂ text (sym s.0) (sym a.0), s.0, a.0)

-- and no other text is read as that table
pub read_only : (state_space arc_space : ℕ) (x : List ℕ) (t : Automaton ℕ) → read_table state_space arc_space x ≡ ok t
    → WellFormed t × (x ≡ write_table t) × (length t.states ≤ state_space) × (length t.arcs ≤ arc_space)
unfolding read_table
read_only state_space arc_space x t r =
    let h = bind_ok (read_first header_line x) _ t r in
    let s = require-ok (leb h.0.0.1.0 state_space) states_full _ t h.2 in
    let a = require-ok (leb h.0.0.1.1 arc_space) arcs_full _ t s.1 in
    let p = bind_ok (read_many state_line h.0.0.1.0 h.0.1) _ t a.1 in
    let q = bind_ok (read_many (arc_line h.0.0.0 h.0.0.1.0) h.0.0.1.1 p.0.1) _ t p.2 in
    let e = require-ok (is_empty q.0.1) form _ t q.2 in
    let l = lines-only x h.0 p.0 q.0 h.1 p.1 q.1 e.0 t (cc e.1) in
    (l.0, l.1, rw l.2 (leb→le h.0.0.1.0 state_space s.0), rw l.3 (leb→le h.0.0.1.1 arc_space a.0))

-- ---- how long a text is

pub arc_line-width : (tapes states : ℕ) → (arc_line tapes states).width ≡ arc_width + tapes * label_width
arc_line-width tapes states = omega arith

pub length_write_table : (t : Automaton ℕ) → WellFormed t → length (write_table t) ≡ header_width + length t.states * state_width + length t.arcs * (arc_width + t.tapes * label_width)
unfolding write_table
length_write_table t w =
    let n = length t.states in
    let k = length t.arcs in
    let h = header_line.write (t.tapes, (n, k)) in
    let s = write_all state_line.write t.states in
    let a = write_all (arc_line t.tapes n).write t.arcs in
    let eh : length h ≡ 16 = header_line_lawful.sized (t.tapes, (n, k)) w.counts in
    let es : length s ≡ n * state_width = length_many state_line_lawful t.states w.states in
    let ea : length a ≡ k * (arc_width + t.tapes * label_width) =
    length_many (arc_line_lawful t.tapes n w.counts.states_fit) t.arcs w.arcs ∙ ap (λ (m : ℕ). k * m) (arc_line-width t.tapes n) in
    length-append h (s ++ a) ∙ (rw (eh, length-append s a, es, ea) (omega arith))
