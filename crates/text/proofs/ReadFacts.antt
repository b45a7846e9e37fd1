-- Facts of the call `read`: what was judged and stored is the outcome of its definition.
use mathlib.Core.Path.{◌≡◌, sym, ap, ap₂, subst, ◌∙◌}
use mathlib.Core.List.{List, [], ◌∷◌, ◌++◌}
use Prim.Native.Nat.{ℕ, ◌+◌, ◌*◌, ◌/◌, ◌%◌, ◌≤◌, ◌<◌}
use native.Mathlib.Omega.{arith}
use native.Mathlib.Nat.{mod-eq_of_lt}
use lib.Dec.{leb, eqb}
use lib.ListN.{length, take, drop, get_or, length-drop}
use lib.Seq.{drop-drop, length-take-le}
use Rattle.automata.specs.Lists.{all, same_list}
use Rattle.automata.specs.Symbols.{is_symbol}
use Rattle.automata.specs.Automaton.{State, Arc, Automaton}
use Rattle.automata.specs.Answer.{◌>>=◌, Answer, ok, refused, beside, require, check}
use Rattle.automata.specs.Refusal.{form, states_full, arcs_full}
use Rattle.automata.specs.Records.{write_all}
use Rattle.automata.specs.Sequence.{read_first, read_many}
use Rattle.automata.specs.TableText.{after_blanks, label_columns, is_empty, header_line, state_line, arc_line, read_table}
use Rattle.automata.specs.Memory.{label_record, state_record, arc_record, encode_states, encode_arcs}
use Rattle.automata.specs.Calls.Outcome.{slices_of, made_of, overwrite, put, counts_of, TableCounts}
use Rattle.automata.specs.Calls.Read.{read_answer, read_outcome}
use Rattle.automata.proofs.AnswerFacts.{refused≢ok, bind_ok, beside-ok, require-ok, check-ok}
use Rattle.automata.proofs.SequenceFacts.{first-ok, many_rest, many_only}
use Rattle.automata.proofs.TextFacts.{read_only, length_write_table, header_line_lawful, state_line_lawful, arc_line_lawful}
use Rattle.automata.proofs.CallFacts.{put-ok, put_refused}
use Rattle.automata.specs.Layout.{arc_size, state_size, amount_width, arc_width, header_width, label_width, labels_column, newline, number_width, state_end, state_width, weight_column}
use Rattle.table.specs.Region.{splice}
use Rattle.table.specs.Endian.{to_le}
use Rattle.table.proofs.RegionFacts.{splice_front}
use Rattle.table.specs.Answers.{counts_as}
use Rattle.table.specs.declared.answer.Counts.{Counts}
use Rattle.text_lines.specs.Lines.{read_counts, read_state_line, read_arc_line}
use Rattle.text_columns.specs.Columns.{columns_value, read_state_number, read_present, read_weight, labels_read}
use Rattle.text_columns.proofs.ValueFacts.{state_value, present_value, weight_value}
use Rattle.text_lines.proofs.LineFacts.{state_of, state_parts, state-line_is}
use Rattle.text_lines.proofs.ArcFacts.{arc_of, arc_fields, line_is}
use Rattle.text_store.specs.Recode.{recoded}
use Rattle.text_store.specs.Stored.{state_of_line, label_of_columns, number_bytes, arc_of_line}
use Rattle.text_store.proofs.RecodeFacts.{recoded_take, recoded_many, recoded-copies}

-- the length of a text of t tapes, n states and m arcs, and the space that is lent for its records
pub record Room (t n m l s a : ℕ) : Type 0 where
  pub tapes : t ≤ 8
  pub states : n ≤ 1024
  pub arcs : m ≤ 8192
  pub text : l ≡ header_width + n * state_width + m * (arc_width + t * label_width)
  pub state_space : n ≤ s / state_size
  pub arc_space : m ≤ a / arc_size

-- ---- each line that is read is stored as the record of what it is read as

state_each : (y : List ℕ) (s : State ℕ) → length y ≡ state_width → state_line.read y ≡ ok s → state_of_line y ≡ state_record.write s
unfolding state_of_line read_state_line
state_each y s l r =
    let a = read_weight (take amount_width y) in
    let b = read_weight (take amount_width (drop amount_width y)) in
    let e = require (eqb (get_or y state_end 0) newline) form in
    let p = bind_ok (state_parts a b e) (λ p. ok p.0) s (sym (state-line_is y l) ∙ r) in
    let q = beside-ok (beside a b >>= λ p. ok (state_of p)) e p.0 p.1 in
    let v = bind_ok (beside a b) (λ p. ok (state_of p)) p.0.0 q.0 in
    let w = beside-ok a b v.0 v.1 in
    let k : state_of v.0 ≡ p.0.0 = cc v.2 in
    let j : p.0.0 ≡ s = cc p.2 in
    let c = weight_value (take amount_width y) v.0.0 (length-take-le amount_width y (omega arith)) w.0 in
    let d = weight_value (take amount_width (drop amount_width y)) v.0.1 (length-take-le amount_width (drop amount_width y) (rw (length-drop amount_width y) (omega arith))) w.1 in
    rw (c, d) (ap (λ (z : State ℕ). state_record.write z) (k ∙ j))

label_each : (y l : List ℕ) → length y ≡ label_width → label_columns.read y ≡ ok l → label_of_columns y ≡ label_record.write l
unfolding label_of_columns
label_each y l h r =
    let a = after_blanks (drop 1 y) in
    let s = bind_ok (beside (require (same_list (take 1 y) (32 ∷ [])) form) (check (all is_symbol a) form a)) (λ p. ok p.1) l r in
    let t = beside-ok (require (same_list (take 1 y) (32 ∷ [])) form) (check (all is_symbol a) form a) s.0 s.1 in
    let q : s.0.1 ≡ l = cc s.2 in
    ap (λ (z : List ℕ). label_record.write z) ((check-ok (all is_symbol a) form a s.0.1 t.1).1 ∙ q)

-- a number that fits its bytes is kept
kept : (k n v m : ℕ) → v ≡ m → m < n → to_le k (v % n) ≡ to_le k m
kept k n v m e h = ap (to_le k) (ap (λ (i : ℕ). i % n) e ∙ mod-eq_of_lt h)

module _ (t n : ℕ) (few : n ≤ 1024) (y : List ℕ) (a : Arc ℕ) (h : length y ≡ (arc_line t n).width) (r : (arc_line t n).read y ≡ ok a) where
  width_is : length y ≡ arc_width + t * label_width
  width_is = omega arith

  -- the four fields that a line is read as
  fields_read_lem : (read_state_number n (take number_width y) ≡ ok a.source) × (read_state_number n (take number_width (drop number_width y)) ≡ ok a.target) × (read_present (take amount_width (drop weight_column y)) ≡ ok a.weight)
      × (labels_read t (take (t * label_width) (drop labels_column y)) ≡ ok a.labels)
  unfolding read_arc_line
  fields_read_lem =
      let S = read_state_number n (take number_width y) in
      let T = read_state_number n (take number_width (drop number_width y)) in
      let W = read_present (take amount_width (drop weight_column y)) in
      let L = labels_read t (take (t * label_width) (drop labels_column y)) in
      let e = require (eqb (get_or y (labels_column + t * label_width) 0) newline) form in
      let s = bind_ok (arc_fields S T W L e) (λ p. ok p.0) a (sym (line_is t n y width_is) ∙ r) in
      let p = beside-ok (beside S (beside T (beside W L)) >>= λ p. ok (arc_of p)) e s.0 s.1 in
      let v = bind_ok (beside S (beside T (beside W L))) (λ p. ok (arc_of p)) s.0.0 p.0 in
      let b = beside-ok S (beside T (beside W L)) v.0 v.1 in
      let d = beside-ok T (beside W L) v.0.1 b.1 in
      let g = beside-ok W L v.0.1.1 d.1 in
      let q : arc_of v.0 ≡ s.0.0 = cc v.2 in
      let k : s.0.0 ≡ a = cc s.2 in
      let z = q ∙ k in (
        b.0 ∙ ap (λ (z : Arc ℕ). ok z.source) z,
        d.0 ∙ ap (λ (z : Arc ℕ). ok z.target) z,
        g.0 ∙ ap (λ (z : Arc ℕ). ok z.weight) z,
        g.1 ∙ ap (λ (z : Arc ℕ). ok z.labels) z,
      )

  numbers_stored : number_bytes y ≡ to_le 2 a.source ++ (to_le 2 a.target ++ to_le 4 a.weight)
  unfolding number_bytes
  numbers_stored =
      let f = fields_read_lem in
      let w = width_is in
      let s = state_value n (take number_width y) a.source (length-take-le number_width y (omega arith)) f.0 in
      let t = state_value n (take number_width (drop number_width y)) a.target (length-take-le number_width (drop number_width y) (rw (length-drop number_width y) (omega arith))) f.1 in
      let v = present_value (take amount_width (drop weight_column y)) a.weight (length-take-le amount_width (drop weight_column y) (rw (length-drop weight_column y) (omega arith))) f.2 in
      ap₂ (λ (p q : List ℕ). p ++ q) (kept 2 65536 (columns_value 0 (take number_width y)) a.source s.0 (omega (arith, s.1)))
      (ap₂ (λ (p q : List ℕ). p ++ q) (kept 2 65536 (columns_value 0 (take number_width (drop number_width y))) a.target t.0 (omega (arith, t.1)))
      (kept 4 4294967296 (columns_value 0 (take amount_width (drop weight_column y))) a.weight v.0 (omega (arith, v.1))))

  labels_stored : recoded label_of_columns label_width t (drop labels_column y) ≡ write_all label_record.write a.labels
  unfolding labels_read
  labels_stored =
      let l : length (take (t * label_width) (drop labels_column y)) ≡ t * label_width = length-take-le (t * label_width) (drop labels_column y) (rw (length-drop labels_column y) (omega arith)) in
      sym (recoded_take label_of_columns label_width t (drop labels_column y))
      ∙ recoded-copies label_columns label_record.write label_of_columns label_each t (take (t * label_width) (drop labels_column y)) a.labels (omega arith) fields_read_lem.3

  arc_each : arc_of_line t y ≡ (arc_record t n).write a
  unfolding arc_of_line
  arc_each = rw (numbers_stored, labels_stored)

-- ---- the whole table

-- the counts of an automaton
abbrev counts_at : Automaton ℕ → Answer (ℕ × (ℕ × ℕ))
counts_at A = ok (A.tapes, (length A.states, length A.arcs))

-- without a table there are no counts
counts_refused : (r : Answer (Automaton ℕ)) (k : ℕ) → (r >>= counts_at) ≡ refused k → r ≡ refused k
counts_refused (ok A) k e = absurd (refused≢ok (sym e))
counts_refused (refused j) k e = let q : j ≡ k = cc in ap refused q

-- the lines of a text are stored as the records of A
abbrev Stored : List ℕ → Automaton ℕ → Type 0
Stored x A =
    (recoded state_of_line state_width (length A.states) (drop header_width x) ≡ encode_states A)
    × (recoded (arc_of_line A.tapes) (arc_width + A.tapes * label_width) (length A.arcs) (drop (header_width + length A.states * state_width) x) ≡ encode_arcs A)

module _ (x : List ℕ) (t n m : ℕ) (rest : List ℕ) (p : List (State ℕ) × List ℕ) (q : List (Arc ℕ) × List ℕ)
    (h : read_first header_line x ≡ ok ((t, (n, m)), rest)) (s : read_many state_line n rest ≡ ok p) (a : read_many (arc_line t n) m p.1 ≡ ok q) where
  front : (header_width ≤ length x) × (header_line.read (take header_width x) ≡ ok (t, (n, m))) × (rest ≡ drop header_width x)
  front = first-ok header_line x ((t, (n, m)), rest) h

  few : n ≤ 1024
  few = (header_line_lawful.only (take header_width x) (t, (n, m)) (length-take-le header_width x front.0) front.1).0.states_fit

  states_many : length p.0 ≡ n
  states_many = (many_only state_line_lawful n rest p s).0

  arcs_many : length q.0 ≡ m
  arcs_many = (many_only (arc_line_lawful t n few) m p.1 q a).0

  states_stored : recoded state_of_line state_width n (drop header_width x) ≡ write_all state_record.write p.0
  states_stored = ap (recoded state_of_line state_width n) (sym front.2) ∙ recoded_many state_line state_record.write state_of_line state_each n rest p s

  behind : p.1 ≡ drop (header_width + n * state_width) x
  behind = many_rest state_line n rest p s ∙ ap (drop (n * state_width)) front.2 ∙ drop-drop (n * state_width) header_width x

  arcs_stored : recoded (arc_of_line t) (arc_width + t * label_width) m (drop (header_width + n * state_width) x) ≡ write_all (arc_record t n).write q.0
  arcs_stored =
      let w : (arc_line t n).width ≡ arc_width + t * label_width = omega arith in
      ap₂ (λ (k : ℕ) (z : List ℕ). recoded (arc_of_line t) k m z) (sym w) (sym behind) ∙ recoded_many (arc_line t n) (arc_record t n).write (arc_of_line t) (arc_each t n few) m p.1 q a

  lines_stored : Stored x (record { tapes = t; states = p.0; arcs = q.0 })
  lines_stored = (
    ap (λ (k : ℕ). recoded state_of_line state_width k (drop header_width x)) states_many ∙ states_stored,
    ap₂ (λ (k j : ℕ). recoded (arc_of_line t) (arc_width + t * label_width) j (drop (header_width + k * state_width) x)) states_many arcs_many ∙ arcs_stored
        ∙ ap (λ (k : ℕ). write_all (arc_record t k).write q.0) (sym states_many),
  )

-- what a text is read as is what its lines are stored as
table_stored : (S T : ℕ) (x : List ℕ) (A : Automaton ℕ) → read_table S T x ≡ ok A → Stored x A
unfolding read_table
table_stored S T x A r =
    let h = bind_ok (read_first header_line x) _ A r in
    let s = require-ok (leb h.0.0.1.0 S) states_full _ A h.2 in
    let a = require-ok (leb h.0.0.1.1 T) arcs_full _ A s.1 in
    let p = bind_ok (read_many state_line h.0.0.1.0 h.0.1) _ A a.1 in
    let q = bind_ok (read_many (arc_line h.0.0.0 h.0.0.1.0) h.0.0.1.1 p.0.1) _ A p.2 in
    let e = require-ok (is_empty q.0.1) form _ A q.2 in
    let d : ◌≡◌ {A = Automaton ℕ} (record { tapes = h.0.0.0; states = p.0.0; arcs = q.0.0 }) A = cc e.1 in
    subst (λ (u : Automaton ℕ). Stored x u) d (lines_stored x h.0.0.0 h.0.0.1.0 h.0.0.1.1 h.0.1 p.0 q.0 h.1 p.1 q.1)

-- the slices after the lines of A's text were stored
made_stored : (x xs ys us vs : List ℕ) (A : Automaton ℕ) → read_table (length xs / state_size) (length ys / arc_size) x ≡ ok A
    → us ≡ splice 0 (recoded state_of_line state_width (length A.states) (drop header_width x)) xs
    → vs ≡ splice 0 (recoded (arc_of_line A.tapes) (arc_width + A.tapes * label_width) (length A.arcs) (drop (header_width + length A.states * state_width) x)) ys
    → made_of (ok (counts_of A)) us vs ≡ read_outcome x (slices_of xs ys)
unfolding read_outcome read_answer
made_stored x xs ys us vs A r p q =
    let w = table_stored (length xs / state_size) (length ys / arc_size) x A r in
    let u : us ≡ overwrite (encode_states A) xs = p ∙ ap (λ (z : List ℕ). splice 0 z xs) w.0 ∙ splice_front (encode_states A) xs in
    let v : vs ≡ overwrite (encode_arcs A) ys = q ∙ ap (λ (z : List ℕ). splice 0 z ys) w.1 ∙ splice_front (encode_arcs A) ys in
    ap₂ (λ (y z : List ℕ). made_of (ok (counts_of A)) y z) u v ∙ sym (put-ok (slices_of xs ys) A) ∙ ap (λ (z : Answer (Automaton ℕ)). put z (slices_of xs ys)) (sym r)

module _ (x xs ys : List ℕ) where
  pub read_refused : (k : ℕ) → refused k ≡ read_counts (length xs / state_size) (length ys / arc_size) x → made_of (refused k) xs ys ≡ read_outcome x (slices_of xs ys)
  unfolding read_outcome read_answer read_counts
  read_refused k e =
      let r = counts_refused (read_table (length xs / state_size) (length ys / arc_size) x) k (sym e) in
      rw r (sym (put_refused (slices_of xs ys) k))

  module _ (c : Counts) (e : ok (c.tapes, (c.states, c.arcs)) ≡ read_counts (length xs / state_size) (length ys / arc_size) x) where
    -- the table, by its counts
    table_read : (A : Automaton ℕ) × (read_table (length xs / state_size) (length ys / arc_size) x ≡ ok A) × (A.tapes ≡ c.tapes) × (length A.states ≡ c.states) × (length A.arcs ≡ c.arcs)
    unfolding read_counts
    table_read =
        let r = bind_ok (read_table (length xs / state_size) (length ys / arc_size) x) counts_at (c.tapes, (c.states, c.arcs)) (sym e) in
        let q : ◌≡◌ {A = ℕ × (ℕ × ℕ)} (r.0.tapes, (length r.0.states, length r.0.arcs)) (c.tapes, (c.states, c.arcs)) = cc r.2 in
        (r.0, r.1, ap (λ (p : ℕ × (ℕ × ℕ)). p.0) q, ap (λ (p : ℕ × (ℕ × ℕ)). p.1.0) q, ap (λ (p : ℕ × (ℕ × ℕ)). p.1.1) q)

    -- what a text that is not refused has room for
    pub read_room : Room c.tapes c.states c.arcs (length x) (length xs) (length ys)
    read_room =
        let t = table_read in
        let A = t.0 in
        let o = read_only (length xs / state_size) (length ys / arc_size) x A t.1 in
        let l : length x ≡ header_width + length A.states * state_width + length A.arcs * (arc_width + A.tapes * label_width) = ap length o.1 ∙ length_write_table A o.0 in
        let n = t.3 in
        let m = t.4 in
        let k : length x ≡ header_width + c.states * state_width + c.arcs * (arc_width + c.tapes * label_width) = rw (t.2, n, m) at l in
        record {
          tapes = rw t.2 at o.0.counts.tapes_fit;
          states = rw n at o.0.counts.states_fit;
          arcs = rw m at o.0.counts.arcs_fit;
          text = k;
          state_space = rw n at o.2;
          arc_space = rw m at o.3;
        }

    pub read_stored : (us vs : List ℕ) → us ≡ splice 0 (recoded state_of_line state_width c.states (drop header_width x)) xs
        → vs ≡ splice 0 (recoded (arc_of_line c.tapes) (arc_width + c.tapes * label_width) c.arcs (drop (header_width + c.states * state_width) x)) ys
        → made_of (ok (counts_as c)) us vs ≡ read_outcome x (slices_of xs ys)
    read_stored us vs p q =
        let t = table_read in
        let F : ℕ → ℕ → ℕ → List ℕ = λ k j i. splice 0 (recoded (arc_of_line k) (arc_width + k * label_width) i (drop (header_width + j * state_width) x)) ys in
        let g : ◌≡◌ {A = Answer TableCounts} (ok (record { tapes = c.tapes; states = c.states; arcs = c.arcs })) (ok (counts_of t.0)) =
        sym (ap₂ (λ (k : ℕ) (l : ℕ × ℕ). ok (record { tapes = k; states = l.0; arcs = l.1 })) t.2 (ap₂ {C = ℕ × ℕ} (λ (k j : ℕ). (k, j)) t.3 t.4)) in
        ap (λ (z : Answer TableCounts). made_of z us vs) g
        ∙ made_stored x xs ys us vs t.0 t.1 (p ∙ ap (λ (k : ℕ). splice 0 (recoded state_of_line state_width k (drop header_width x)) xs) (sym t.3))
        (q ∙ ap₂ (λ (k j : ℕ). F k j c.arcs) (sym t.2) (sym t.3) ∙ ap (λ (i : ℕ). F t.0.tapes (length t.0.states) i) (sym t.4))
