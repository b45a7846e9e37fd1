-- Refusals of texts and of tables in memory: of the first line, or the first record, that does not read.
use mathlib.Core.Path.{◌≡◌, refl, sym, ap, subst}
use mathlib.Core.Logic.{◌↔◌, ⊎_elim}
use mathlib.Core.Bool.{true, false}
use mathlib.Core.List.{List, [], ◌∷◌}
use Prim.Native.Nat.{ℕ, zero, suc}
use lib.Dec.{leb}
use lib.ListN.{length, take, drop}
use Rattle.automata.specs.Answer.{◌>>=◌, Answer, ok, refused, require}
use Rattle.automata.specs.Space.{Space}
use Rattle.automata.specs.Automaton.{Automaton, Arc}
use Rattle.automata.specs.Table.{Counts, counts_fit}
use Rattle.automata.specs.Format.{Format}
use Rattle.automata.specs.Sequence.{read_first, read_many, read_all}
use Rattle.automata.specs.TableText.{header_line, state_line, arc_line, is_empty, read_table}
use Rattle.automata.specs.Memory.{Memory, state_record, arc_record, decode_table}
use Rattle.laws.specs.TableRefused.{
  FirstRefused,
  first_short,
  first_unread,
  ManyRefused,
  many_first,
  many_later,
  HeaderFits,
  ReadRefused,
  read_header_lem,
  read_states,
  read_arcs,
  read_state-line,
  read_arc-line,
  read_trailing,
  TableRefused,
  table_counts,
  table-state,
  table-arc,
}
use borrow.Author.Tests.{leb-true, leb-false, le-leb, lt-leb}
use Rattle.automata.proofs.TestFacts
use Rattle.automata.proofs.AnswerFacts.{refused≢ok, then_refuses}
use Rattle.automata.proofs.TableFacts.{counts_fit→Counts, Counts→counts_fit}
use Rattle.laws.proofs.Lemmas.Judging.{bind-cases, then_on, require-cases, require_refuses, require-goes_on}

-- ---- one line or record, and several

module _ {B A : Type 0} (f : Format B A) where
  -- what stands behind the first
  abbrev behind : List B → Unit {0} → Answer (A × List B)
  behind x t = f.read (take f.width x) >>= λ a. ok (a, drop f.width x)

  pub first-refused : (x : List B) (n : ℕ) → (read_first f x ≡ refused n) ↔ FirstRefused f x n
  first-refused x n = (why, answer n)
    where
      why : read_first f x ≡ refused n → FirstRefused f x n
      why e = ⊎_elim (λ (t, q). subst (FirstRefused f x) q (first_short (leb-false f.width (length x) t)))
          (λ (t, e). first_unread (leb-true f.width (length x) t) n
          (⊎_elim (λ y. y) (λ (_, _, q). absurd (refused≢ok (sym q))) (bind-cases (f.read (take f.width x)) (λ a. ok (a, drop f.width x)) n e)))
          (require-cases (leb f.width (length x)) 1 (behind x) n e)

      answer : (k : ℕ) → FirstRefused f x k → read_first f x ≡ refused k
      answer _ (first_short h) = require_refuses (leb f.width (length x)) 1 (behind x) (lt-leb f.width (length x) h)
      answer _ (first_unread h k e) = require-goes_on (leb f.width (length x)) 1 (behind x) k (le-leb f.width (length x) h)
          (then_refuses (f.read (take f.width x)) (λ a. ok (a, drop f.width x)) k e)

  -- those behind a first that reads
  abbrev further : ℕ → A × List B → Answer (List A × List B)
  further k p = read_many f k p.1 >>= λ q. ok (p.0 ∷ q.0, q.1)

  many_unread : (k : ℕ) (x : List B) (n : ℕ) → read_many f k x ≡ refused n → ManyRefused f k x n
  many_unread zero x n e = absurd (refused≢ok (sym e))
  many_unread (suc k) x n e = ⊎_elim (λ y. many_first k x n ((first-refused x n).0 y))
      (λ (p, q, e). many_later k x p q n (many_unread k p.1 n
      (⊎_elim (λ y. y) (λ (_, _, q). absurd (refused≢ok (sym q))) (bind-cases (read_many f k p.1) (λ q. ok (p.0 ∷ q.0, q.1)) n e))))
      (bind-cases (read_first f x) (further k) n e)

  unread_many : {k : ℕ} {x : List B} {n : ℕ} → ManyRefused f k x n → read_many f k x ≡ refused n
  unread_many (many_first k x n h) = then_refuses (read_first f x) (further k) n ((first-refused x n).1 h)
  unread_many (many_later k x p e n h) =
      then_on (read_first f x) (further k) p n e (then_refuses (read_many f k p.1) (λ q. ok (p.0 ∷ q.0, q.1)) n (unread_many h))

  pub many_refused : (k : ℕ) (x : List B) (n : ℕ) → (read_many f k x ≡ refused n) ↔ ManyRefused f k x n
  many_refused k x n = (many_unread k x n, unread_many)

  all-refused : (k : ℕ) (x : List B) (n : ℕ) → (read_all f k x ≡ refused n) ↔ ManyRefused f k x n
  all-refused k x n = (
    λ e. (many_refused k x n).0 (⊎_elim (λ y. y) (λ (_, _, q). absurd (refused≢ok (sym q))) (bind-cases (read_many f k x) (λ p. ok p.0) n e)),
    λ h. then_refuses (read_many f k x) (λ p. ok p.0) n ((many_refused k x n).1 h),
  )

-- ---- a text

not_empty : (x : List ℕ) → is_empty x ≡ false → ¬ (x ≡ [])
not_empty x e q = TestFacts.false_not_true e (ap is_empty q)

empty_not : (x : List ℕ) → ¬ (x ≡ []) → is_empty x ≡ false
empty_not [] n = absurd (n refl)
empty_not (c ∷ x) n = refl

module _ (space : Space) (x : List ℕ) where
  -- reading refuses exactly so
  pub read_refused : (n : ℕ) → (read_table space.states space.arcs x ≡ refused n) ↔ ReadRefused space x n
  unfolding read_table
  read_refused n = (why, answer n)
    where
      why : read_table space.states space.arcs x ≡ refused n → ReadRefused space x n
      why e = ⊎_elim (λ y. read_header_lem n ((first-refused header_line x n).0 y))
          (λ (h, q, e). ⊎_elim (λ (t, z). subst (ReadRefused space x) z (read_states h.0 h.1 q (leb-false h.0.1.0 space.states t)))
          (λ (t, e). ⊎_elim
          (λ (u, z). subst (ReadRefused space x) z
          (read_arcs h.0 h.1 q (leb-true h.0.1.0 space.states t) (leb-false h.0.1.1 space.arcs u)))
          (λ (u, e).
          let fits : HeaderFits space x h.0 h.1 =
          record { header = q; states = leb-true h.0.1.0 space.states t; arcs = leb-true h.0.1.1 space.arcs u } in
          let line = arc_line h.0.0 h.0.1.0 in
          ⊎_elim (λ y. read_state-line h.0 h.1 fits n ((many_refused state_line h.0.1.0 h.1 n).0 y))
          (λ (s, qs, e). ⊎_elim (λ y. read_arc-line h.0 h.1 fits s qs n ((many_refused line h.0.1.1 s.1 n).0 y))
          (λ (a, qa, e). ⊎_elim
          (λ (v, z). subst (ReadRefused space x) z (read_trailing h.0 h.1 fits s qs a qa (not_empty a.1 v)))
          (λ (_, e). absurd (refused≢ok (sym e)))
          (require-cases (is_empty a.1) 2 _ n e))
          (bind-cases (read_many line h.0.1.1 s.1) _ n e))
          (bind-cases (read_many state_line h.0.1.0 h.1) _ n e))
          (require-cases (leb h.0.1.1 space.arcs) 9 _ n e))
          (require-cases (leb h.0.1.0 space.states) 8 _ n e))
          (bind-cases (read_first header_line x) _ n e)

      -- what follows a header that fits
      lines_of : ℕ × (ℕ × ℕ) → List ℕ → Answer (Automaton ℕ)
      lines_of c y = read_many state_line c.1.0 y >>= λ s. read_many (arc_line c.0 c.1.0) c.1.1 s.1 >>= λ a. require (is_empty a.1) 2 >>= λ e.
          ok (record { tapes = c.0; states = s.0; arcs = a.0 })

      fitting : (c : ℕ × (ℕ × ℕ)) (y : List ℕ) → HeaderFits space x c y → (k : ℕ) → lines_of c y ≡ refused k
          → read_table space.states space.arcs x ≡ refused k
      fitting c y f k e = then_on (read_first header_line x) _ (c, y) k f.header
          (require-goes_on (leb c.1.0 space.states) 8 _ k (le-leb c.1.0 space.states f.states)
          (require-goes_on (leb c.1.1 space.arcs) 9 _ k (le-leb c.1.1 space.arcs f.arcs) e))

      answer : (k : ℕ) → ReadRefused space x k → read_table space.states space.arcs x ≡ refused k
      answer _ (read_header_lem k h) = then_refuses (read_first header_line x) _ k ((first-refused header_line x k).1 h)
      answer _ (read_states c y q h) = then_on (read_first header_line x) _ (c, y) _ q
          (require_refuses (leb c.1.0 space.states) 8 _ (lt-leb c.1.0 space.states h))
      answer _ (read_arcs c y q h l) = then_on (read_first header_line x) _ (c, y) _ q
          (require-goes_on (leb c.1.0 space.states) 8 _ _ (le-leb c.1.0 space.states h)
          (require_refuses (leb c.1.1 space.arcs) 9 _ (lt-leb c.1.1 space.arcs l)))
      answer _ (read_state-line c y f k h) = fitting c y f k
          (then_refuses (read_many state_line c.1.0 y) _ k ((many_refused state_line c.1.0 y k).1 h))
      answer _ (read_arc-line c y f s q k h) = fitting c y f k (then_on (read_many state_line c.1.0 y) _ s k q
          (then_refuses (read_many (arc_line c.0 c.1.0) c.1.1 s.1) _ k ((many_refused (arc_line c.0 c.1.0) c.1.1 s.1 k).1 h)))
      answer _ (read_trailing c y f s q a r h) = fitting c y f 2 (then_on (read_many state_line c.1.0 y) _ s 2 q
          (then_on (read_many (arc_line c.0 c.1.0) c.1.1 s.1) _ a 2 r
          (require_refuses (is_empty a.1) 2 _ (empty_not a.1 h))))

-- ---- a table in memory

-- a table in memory is refused exactly so
pub table-refused : (m : Memory) (n : ℕ) → (decode_table m ≡ refused n) ↔ TableRefused m n
unfolding decode_table
table-refused m n = (why, answer n)
  where
    line : Format ℕ (Arc ℕ)
    line = arc_record m.tapes m.states

    why : decode_table m ≡ refused n → TableRefused m n
    why e = ⊎_elim
        (λ (t, z). subst (TableRefused m) z (table_counts (λ c. TestFacts.false_not_true t
        (TestFacts.T_true (counts_fit m.tapes m.states m.arcs) (Counts→counts_fit m.tapes m.states m.arcs c)))))
        (λ (t, e).
        let c = counts_fit→Counts m.tapes m.states m.arcs (TestFacts.true_T (counts_fit m.tapes m.states m.arcs) t) in
        ⊎_elim (λ y. table-state c n ((all-refused state_record m.states m.state_bytes n).0 y))
        (λ (ss, q, e). table-arc c ss q n ((all-refused line m.arcs m.arc_bytes n).0
        (⊎_elim (λ y. y) (λ (_, _, q). absurd (refused≢ok (sym q))) (bind-cases (read_all line m.arcs m.arc_bytes) _ n e))))
        (bind-cases (read_all state_record m.states m.state_bytes) _ n e))
        (require-cases (counts_fit m.tapes m.states m.arcs) 3 _ n e)

    passed : Counts m.tapes m.states m.arcs → counts_fit m.tapes m.states m.arcs ≡ true
    passed c = TestFacts.T_true (counts_fit m.tapes m.states m.arcs) (Counts→counts_fit m.tapes m.states m.arcs c)

    answer : (k : ℕ) → TableRefused m k → decode_table m ≡ refused k
    answer _ (table_counts h) = require_refuses (counts_fit m.tapes m.states m.arcs) 3 _
        (TestFacts.T_false (counts_fit m.tapes m.states m.arcs) (λ t. h (counts_fit→Counts m.tapes m.states m.arcs t)))
    answer _ (table-state c k h) = require-goes_on (counts_fit m.tapes m.states m.arcs) 3 _ k (passed c)
        (then_refuses (read_all state_record m.states m.state_bytes) _ k ((all-refused state_record m.states m.state_bytes k).1 h))
    answer _ (table-arc c ss q k h) = require-goes_on (counts_fit m.tapes m.states m.arcs) 3 _ k (passed c)
        (then_on (read_all state_record m.states m.state_bytes) _ ss k q
        (then_refuses (read_all line m.arcs m.arc_bytes) _ k ((all-refused line m.arcs m.arc_bytes k).1 h)))
