-- The input of the program `agree`: what is written is read back, and nothing else is read as that input.
use mathlib.Core.Path.{◌≡◌, refl, sym, ap, subst, ◌∙◌}
use mathlib.Core.List.{List, [], ◌∷◌, ◌++◌}
use Prim.Native.Nat.{ℕ, ◌≤◌, ◌<◌, ◌^◌}
use native.Mathlib.Omega.{arith}
use lib.Dec.{leb, leb→le, le→leb}
use lib.ListN.{length-append, length}
use Rattle.automata.specs.TapePair.{TapePair}
use Rattle.automata.specs.Refusal.{short, size}
use Rattle.automata.specs.Automaton.{Automaton}
use Rattle.automata.specs.Answer.{ok}
use Rattle.automata.specs.Lists.{All}
use Rattle.automata.specs.Sequence.{read_first}
use Rattle.automata.specs.Decimal.{decimal}
use Rattle.automata.specs.Table.{WellFormed}
use Rattle.automata.specs.TableText.{write_table, read_table}
use Rattle.automata.specs.AgreeText.{shortest_line, pair_columns, input_limit, state_space, arc_space, Input, pair_line, write_input, read_pairs, read_input}
use Rattle.automata.proofs.TestFacts.{T_true}
use Rattle.automata.proofs.AnswerFacts.{bind_ok, require-ok}
use Rattle.automata.proofs.FormatFacts.{convert_lawful, Lawful, pair_lawful, followed_lawful, copies_lawful}
use Rattle.automata.proofs.SequenceFacts.{first_reads, first-only}
use Rattle.automata.proofs.NumberFacts.{decimal_lawful}
use Rattle.automata.proofs.TextFacts.{read_write, read_only}
use Rattle.automata.specs.Layout.{newline}

-- two tapes and a limit whose numbers take up at most 3 columns
abbrev pub ThreeColumns : TapePair → Type 0
ThreeColumns p = (p.first < 10 ^ 3) × ((p.second < 10 ^ 3) × (p.limit < 10 ^ 3))

-- the inputs that can be written: numbers of 3 columns, and a table for which there is space
pub record Writable (i : Input) : Type 0 where
  pub count : length i.pairs < 10 ^ 3
  pub pairs : All ThreeColumns i.pairs
  pub table : WellFormed i.table
  pub states : length i.table.states ≤ state_space
  pub arcs : length i.table.arcs ≤ arc_space
  pub fits : length (write_input i) ≤ input_limit

pair_columns_lawful : Lawful pair_columns ThreeColumns
pair_columns_lawful = convert_lawful (pair_lawful (decimal_lawful 3) (pair_lawful (decimal_lawful 3) (decimal_lawful 3))) (record {
  reads = λ q v. (v, refl);
  only = λ p q v r.
      let e : ◌≡◌ {A = TapePair} (record { first = p.0; second = p.1.0; limit = p.1.1 }) q = cc in
      rw (← e) (v, refl);
})

pair_line_lawful : (n : ℕ) → Lawful (pair_line n) (λ ps. (length ps ≡ n) × All ThreeColumns ps)
pair_line_lawful n = followed_lawful (newline ∷ []) (copies_lawful pair_columns_lawful n)

-- a first line has 4 bytes at least
line-enough : (n : ℕ) (ps : List TapePair) (rest : List ℕ) → n < 10 ^ 3 → (length ps ≡ n) × All ThreeColumns ps
    → shortest_line ≤ length ((decimal 3).write n ++ ((pair_line n).write ps ++ rest))
line-enough n ps rest h v =
    let a : length ((decimal 3).write n) ≡ 3 = (decimal_lawful 3).sized n h in
    let b : length ((pair_line n).write ps) ≡ (pair_line n).width = (pair_line_lawful n).sized ps v in
    let w : 1 ≤ (pair_line n).width = omega arith in
    let c = length-append ((decimal 3).write n) ((pair_line n).write ps ++ rest) in
    let d = length-append ((pair_line n).write ps) rest in
    omega arith

-- what is written is read back
pub read_write_input : (i : Input) → Writable i → read_input (write_input i) ≡ ok i
unfolding read_input read_pairs write_input
read_write_input i w =
    let n = length i.pairs in
    let rest = write_table i.table in
    rw (
      T_true (leb (length (write_input i)) input_limit) (le→leb (length (write_input i)) input_limit w.fits),
      T_true (leb shortest_line (length (write_input i)))
          (le→leb shortest_line (length (write_input i)) (line-enough n i.pairs rest w.count (refl, w.pairs))),
      first_reads (decimal_lawful 3) n ((pair_line n).write i.pairs ++ rest) w.count,
      first_reads (pair_line_lawful n) i.pairs rest (refl, w.pairs),
      read_write state_space arc_space i.table w.table w.states w.arcs,
    )

module _ (x : List ℕ) (n : ℕ × List ℕ) (p : List TapePair × List ℕ) (t : Automaton ℕ) where
  -- what the parts of the input say, where none is refused
  parts_only : length x ≤ input_limit → read_first (decimal 3) x ≡ ok n → read_first (pair_line n.0) n.1 ≡ ok p → read_table state_space arc_space p.1 ≡ ok t
      → (i : Input) → record { pairs = p.0; table = t } ≡ i → (x ≡ write_input i) × Writable i
  unfolding write_input
  parts_only h q r s i e =
      let c = first-only (decimal_lawful 3) x n q in
      let l = first-only (pair_line_lawful n.0) n.1 p r in
      let k = read_only state_space arc_space p.1 t s in
      let text : ℕ → List ℕ = λ m. (decimal 3).write m ++ ((pair_line m).write p.0 ++ write_table t) in
      let y : x ≡ text (length p.0) =
      c.1 ∙ ap (λ (z : List ℕ). (decimal 3).write n.0 ++ z) (l.1 ∙ ap (λ (z : List ℕ). (pair_line n.0).write p.0 ++ z) k.1) ∙ ap text (sym l.0.0) in
      subst (λ (j : Input). (x ≡ write_input j) × Writable j) e
      (y, record { count = rw l.0.0 c.0; pairs = l.0.1; table = k.0; states = k.2; arcs = k.3; fits = rw y at h })

-- and nothing else is read as that input
pub read_input_only : (x : List ℕ) (i : Input) → read_input x ≡ ok i → (x ≡ write_input i) × Writable i
unfolding read_input read_pairs
read_input_only x i r =
    let p = bind_ok (read_pairs x) _ i r in
    let s = require-ok (leb (length x) input_limit) size _ p.0 p.1 in
    let l = require-ok (leb shortest_line (length x)) short _ p.0 s.1 in
    let n = bind_ok (read_first (decimal 3) x) _ p.0 l.1 in
    let t = bind_ok (read_table state_space arc_space p.0.1) _ i p.2 in
    parts_only x n.0 p.0 t.0 (leb→le (length x) input_limit s.0) n.1 n.2 t.1 i (cc t.2)
