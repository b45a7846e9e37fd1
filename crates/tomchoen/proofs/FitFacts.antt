-- The counts that a call tells are those of a table, so that one number of 64 bits holds them.
use mathlib.Core.Path.{◌≡◌, refl, sym, ap, subst}
use mathlib.Core.List.{List}
use Prim.Native.Nat.{ℕ, ◌+◌, ◌*◌, ◌≤◌, ◌<◌}
use native.Mathlib.Omega.{arith}
use native.Mathlib.Nat.{mul-le-mul}
use lib.ListN.{length}
use Rattle.automata.specs.Layout.{arc_width, label_width}
use Rattle.automata.specs.Answer.{Answer, ok, refused}
use Rattle.automata.specs.Automaton.{Automaton}
use Rattle.automata.specs.Table.{WellFormed}
use Rattle.automata.specs.TapePair.{TapePair}
use Rattle.automata.specs.TableText.{write_table}
use Rattle.automata.specs.Memory.{Memory, decode_table}
use Rattle.automata.specs.Calls.Outcome.{Slices, TableCounts, Made, Built, Joined, Written, space_of, put, build, conclude, print, made_of, built_of, joined_of}
use Rattle.automata.specs.Calls.Work.{enough}
use Rattle.automata.specs.Calls.Read.{read_answer, read_outcome}
use Rattle.automata.specs.Calls.Write.{write_answer, write_outcome}
use Rattle.automata.specs.Calls.Intersect.{intersect_answer, intersect_outcome}
use Rattle.automata.specs.Calls.Product.{product_answer, product_outcome}
use Rattle.automata.specs.Calls.Join.{join_answer, join_outcome}
use Rattle.automata.specs.Calls.Union.{union_answer, union_outcome}
use Rattle.automata.specs.Calls.Project.{project_answer, project_outcome}
use Rattle.automata.specs.Calls.Drop.{drop_answer, drop_outcome}
use Rattle.automata.proofs.AnswerFacts.{bind_ok, judge-ok, ok_injective}
use Rattle.automata.proofs.MemoryFacts.{decode_only}
use Rattle.automata.proofs.TextFacts.{length_write_table}
use Rattle.laws.specs.Storable.{Storable}
use Rattle.laws.proofs.Lemmas.CallTables.{read_fits, intersect_fits, product_fits, join_fits, union_fits, project_fits, drop_fits}
use Rattle.text.specs.Answers.{written_of}
use Rattle.c_answers.specs.Words.{CountsFit, BytesFit}

-- ---- calls that make a table

-- the counts of a table that was put into slices
put_fits : (r : Answer (Automaton ℕ)) (s : Slices) → ((A : Automaton ℕ) → r ≡ ok A → Storable (space_of s) A) → CountsFit (put r s).answer
unfolding put
put_fits (ok A) s h = let c = (h A refl).well_formed.counts in (c.tapes_fit, c.states_fit, c.arcs_fit)
put_fits (refused n) s h = tt

module _ (a : Answer TableCounts) (states arcs : List ℕ) where
  made_fits : (r : Answer (Automaton ℕ)) (s : Slices) → ((A : Automaton ℕ) → r ≡ ok A → Storable (space_of s) A) → made_of a states arcs ≡ put r s → CountsFit a
  made_fits r s h e = subst CountsFit (sym (ap (λ (o : Made). o.answer) e)) (put_fits r s h)

  pub read_counts_lem : (text : List ℕ) (s : Slices) → made_of a states arcs ≡ read_outcome text s → CountsFit a
  unfolding read_outcome
  read_counts_lem text s e = made_fits (read_answer text (space_of s)) s (λ A. read_fits text (space_of s) A) e

  pub union_counts : (m k : Memory) (s : Slices) → made_of a states arcs ≡ union_outcome m k s → CountsFit a
  unfolding union_outcome
  union_counts m k s e = made_fits (union_answer m k (space_of s)) s (λ A. union_fits m k (space_of s) A) e

  pub project_counts : (m : Memory) (js : List ℕ) (s : Slices) → made_of a states arcs ≡ project_outcome m js s → CountsFit a
  unfolding project_outcome
  project_counts m js s e = made_fits (project_answer m js (space_of s)) s (λ A. project_fits m js (space_of s) A) e

  pub drop_counts : (m : Memory) (mask : ℕ) (s : Slices) → made_of a states arcs ≡ drop_outcome m mask s → CountsFit a
  unfolding drop_outcome
  drop_counts m mask s e = made_fits (drop_answer m mask (space_of s)) s (λ A. drop_fits m mask (space_of s) A) e

  module _ (work : List ℕ) where
    built_fits : (r : Answer (Automaton ℕ)) (s : Slices) (w : List ℕ) → ((A : Automaton ℕ) → r ≡ ok A → Storable (space_of s) A)
        → built_of a states arcs work ≡ build r s w → CountsFit a
    unfolding build
    built_fits r s w h e = made_fits r s h (ap (λ (o : Built). o.made) e)

    pub intersect_counts : (m : Memory) (ps : List TapePair) (s : Slices) (w : List ℕ) → built_of a states arcs work ≡ intersect_outcome m ps s w → CountsFit a
    unfolding intersect_outcome
    intersect_counts m ps s w e = built_fits (intersect_answer m ps (space_of s) w) s w (λ A. intersect_fits m ps (space_of s) w A) e

    pub product_counts : (m k : Memory) (s : Slices) (w : List ℕ) → built_of a states arcs work ≡ product_outcome m k s w → CountsFit a
    unfolding product_outcome
    product_counts m k s w e = built_fits (product_answer m k (space_of s) w) s w (λ A. product_fits m k (space_of s) w A) e

    module _ (product_states product_arcs : List ℕ) where
      pub join_counts : (m k : Memory) (ps : List TapePair) (p s : Slices) (w : List ℕ)
          → joined_of a states arcs product_states product_arcs work ≡ join_outcome m k ps p s w → CountsFit a
      unfolding join_outcome conclude
      join_counts m k ps p s w e =
          made_fits (join_answer m k ps (space_of p) (space_of s) w) s (λ A. join_fits m k ps (space_of p) (space_of s) w A) (ap (λ (o : Joined). o.made) e)

-- ---- writing

-- the text of a table is short
text-short : (A : Automaton ℕ) → WellFormed A → length (write_table A) < 4294967296
text-short A wf =
    let c = wf.counts in
    let l = length_write_table A wf in
    let b = mul-le-mul c.arcs_fit (width c.tapes_fit) in
    omega (arith, l, b, c.states_fit)
  where
    width : A.tapes ≤ 8 → arc_width + A.tapes * label_width ≤ arc_width + 8 * label_width
    width h = omega arith

print_fits : (r : Answer (List ℕ)) (output : List ℕ) → ((x : List ℕ) → r ≡ ok x → length x < 4294967296) → BytesFit (print r output).answer
unfolding print
print_fits (ok x) output h = h x refl
print_fits (refused n) output h = tt

pub write_bytes : (a : Answer ℕ) (after : List ℕ) (m : Memory) (output : List ℕ) → written_of a after ≡ write_outcome m output → BytesFit a
unfolding write_outcome write_answer
write_bytes a after m output e = subst BytesFit (sym (ap (λ (o : Written). o.answer) e)) (print_fits (write_answer m output) output short)
  where
    short : (x : List ℕ) → write_answer m output ≡ ok x → length x < 4294967296
    short x g =
        let (A, d, e₁) = bind_ok (decode_table m) _ x g in
        let (t, e₂) = judge-ok (enough (length (write_table A)) output) _ _ x e₁ in
        subst (λ (y : List ℕ). length y < 4294967296) (ok_injective (write_table A) x e₂) (text-short A (decode_only m A d).0)
