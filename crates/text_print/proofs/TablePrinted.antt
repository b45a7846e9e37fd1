-- The lines that are printed of a table are its text.
use mathlib.Core.Path.{◌≡◌, refl, sym, ap, ap₂, ◌∙◌}
use mathlib.Core.Option.{Option, none, some}
use mathlib.Core.List.{List, [], ◌∷◌, ◌++◌, append_assoc}
use Prim.Native.Nat.{ℕ, ◌+◌, ◌-◌, ◌*◌, ◌≤◌}
use native.Mathlib.Omega.{arith}
use lib.ListN.{length, take, drop, get_or, length-append, length-drop}
use lib.Seq.{take_at, length-take-le}
use Rattle.automata.specs.Lists.{Each}
use Rattle.automata.specs.Automaton.{State, Arc, Automaton}
use Rattle.automata.specs.Answer.{ok, beside}
use Rattle.automata.specs.Refusal.{size}
use Rattle.automata.specs.Records.{write_all}
use Rattle.automata.specs.Sequence.{read_all}
use Rattle.automata.specs.Table.{Weight, WellFormedArc, counts_fit}
use Rattle.automata.specs.TableText.{label_columns, weight_columns, header_line, state_line, arc_line, write_table}
use Rattle.automata.specs.Memory.{Memory, Sound, table_of, decode_table, weight_record, state_record, label_record, arc_record, zeros}
use Rattle.automata.specs.Calls.Outcome.{overwrite}
use Rattle.automata.proofs.AnswerFacts.{bind_ok, beside-ok, require-ok}
use Rattle.automata.proofs.FormatFacts.{copies_lawful}
use Rattle.automata.proofs.SequenceFacts.{read_all_only}
use Rattle.automata.proofs.MemoryFacts.{weight_record_lawful, state_record_lawful, label_record_lawful, arc_record_lawful, arc_record-width}
use Rattle.automata.proofs.SoundFacts.{sound_decoded}
use Rattle.automata.specs.Layout.{arc_size, state_size, amount_width, arc_width, header_width, label_size, label_width, newline, number_width, state_width}
use Rattle.table.specs.Region.{part, splice}
use Rattle.table.specs.Answers.{lent}
use Rattle.table.specs.declared.answer.Counts.{Counts}
use Rattle.table.proofs.RegionFacts.{splice-behind, splice_front}
use Rattle.text_print.proofs.PrintedFacts.{state_sized, arc_sized, length_header}
use Rattle.table.specs.Endian.{le, to_le}
use Rattle.table.proofs.EndianFacts.{le-to_le}
use Rattle.table.proofs.LoadedFacts.{label_bytes_lem}
use Rattle.table.proofs.SoundFacts.{few_tapes, few_states, states_lent, arcs_lent}
use Rattle.text_columns.specs.Columns.{decimal_text}
use Rattle.text_store.specs.Recode.{recoded}
use Rattle.text_print.specs.Printed.{weight_of_record, line_of_state, columns_of_label, numbers_of_record, line_of_arc, header_of}
use Rattle.text_store.proofs.RecodeFacts.{length_recoded, recoded_take, recoded-all, recoded-copies}

-- ---- each record is printed as the line of what it holds

weight-written : (o : Option ℕ) → Each Weight o → weight_of_record (weight_record.write o) ≡ weight_columns.write o
unfolding weight_of_record part
weight-written none v = refl
weight-written (some w) v = ap (λ (k : ℕ). weight_columns.write (some k)) (le-to_le 4 w (omega arith))

weight_each : (y : List ℕ) (o : Option ℕ) → length y ≡ 5 → weight_record.read y ≡ ok o → weight_of_record y ≡ weight_columns.write o
weight_each y o h r =
    let c = weight_record_lawful.only y o h r in
    ap weight_of_record c.1 ∙ weight-written o c.0

state_each : (y : List ℕ) (s : State ℕ) → length y ≡ state_size → state_record.read y ≡ ok s → line_of_state y ≡ state_line.write s
unfolding line_of_state
state_each y s h r =
    let b = bind_ok (beside (weight_record.read (take 5 y)) (weight_record.read (drop 5 y))) (λ p. ok (record { initial = p.0; final = p.1 })) s r in
    let q = beside-ok (weight_record.read (take 5 y)) (weight_record.read (drop 5 y)) b.0 b.1 in
    let e : ◌≡◌ {A = State ℕ} (record { initial = b.0.0; final = b.0.1 }) s = cc b.2 in
    ap₂ (λ (u v : List ℕ). (u ++ v) ++ (newline ∷ []))
    (weight_each (take 5 y) b.0.0 (length-take-le 5 y (omega arith)) q.0)
    (weight_each (drop 5 y) b.0.1 (length-drop 5 y ∙ omega arith) q.1)
    ∙ ap (λ (z : State ℕ). state_line.write z) e

label_each : (y l : List ℕ) → length y ≡ label_width → label_record.read y ≡ ok l → columns_of_label y ≡ label_columns.write l
unfolding columns_of_label
label_each y l h r =
    let c = label_record_lawful.only y l h r in
    ap (λ (z : List ℕ). label_columns.write (take (get_or z 0 0) (drop 1 z))) (c.1 ∙ label_bytes_lem l)
    ∙ ap (λ (z : List ℕ). label_columns.write z) (take_at l (zeros (8 - length l)) (length l) refl)

module _ (t n : ℕ) (few : n ≤ 1024) (a : Arc ℕ) (v : WellFormedArc t n a) where
  labels_written : (z : List ℕ) → recoded columns_of_label label_size t (write_all label_record.write a.labels ++ z) ≡ write_all label_columns.write a.labels
  labels_written z =
      let w = write_all label_record.write a.labels in
      let f = copies_lawful label_record_lawful t in
      let l : length w ≡ t * label_width = f.sized a.labels (v.width, v.labels) in
      sym (recoded_take columns_of_label label_size t (w ++ z)) ∙ ap (recoded columns_of_label label_size t) (take_at w z (t * label_width) l)
      ∙ recoded-copies label_record label_columns.write columns_of_label label_each t w a.labels (omega arith) (f.reads a.labels (v.width, v.labels))

  numbers_written : numbers_of_record ((arc_record t n).write a) ≡ decimal_text number_width a.source ++ (decimal_text number_width a.target ++ decimal_text amount_width a.weight)
  unfolding numbers_of_record part
  numbers_written =
      let s : le (to_le 2 a.source) ≡ a.source = le-to_le 2 a.source (omega (arith, v.source)) in
      let g : le (to_le 2 a.target) ≡ a.target = le-to_le 2 a.target (omega (arith, v.target)) in
      let w : le (to_le 4 a.weight) ≡ a.weight = le-to_le 4 a.weight (omega (arith, v.weight)) in
      ap₂ (λ (x y : List ℕ). x ++ y) (ap (decimal_text number_width) s) (ap₂ (λ (x y : List ℕ). x ++ y) (ap (decimal_text number_width) g) (ap (decimal_text amount_width) w))

  arc-written : line_of_arc t ((arc_record t n).write a) ≡ (arc_line t n).write a
  unfolding line_of_arc decimal_text
  arc-written =
      let ds = decimal_text number_width a.source in
      let dt = decimal_text number_width a.target in
      let dw = decimal_text amount_width a.weight in
      let ls = write_all label_columns.write a.labels in
      ap₂ (λ (x y : List ℕ). (x ++ y) ++ (newline ∷ [])) numbers_written (labels_written _)
      ∙ ap (λ (x : List ℕ). x ++ (newline ∷ [])) (append_assoc ds (dt ++ dw) ls ∙ ap (λ (x : List ℕ). ds ++ x) (append_assoc dt dw ls))

arc_each : (t n : ℕ) → n ≤ 1024 → (y : List ℕ) (a : Arc ℕ) → length y ≡ (arc_record t n).width → (arc_record t n).read y ≡ ok a → line_of_arc t y ≡ (arc_line t n).write a
arc_each t n few y a h r =
    let c = (arc_record_lawful t n few).only y a h r in
    ap (line_of_arc t) c.1 ∙ arc-written t n few a c.0

-- ---- the whole table

-- the lines of n states and m arcs that are read from bytes
module _ (t n m : ℕ) (ss bs : List ℕ) (p : List (State ℕ)) (q : List (Arc ℕ)) (tapes : t ≤ 8) (few : n ≤ 1024)
    (s : read_all state_record n ss ≡ ok p) (a : read_all (arc_record t n) m bs ≡ ok q) where
  records-written : header_line.write (t, (n, m)) ++ (recoded line_of_state state_size n ss ++ recoded (line_of_arc t) arc_size m bs) ≡ write_table (record { tapes = t; states = p; arcs = q })
  unfolding write_table
  records-written =
      let w : (arc_record t n).width ≡ arc_size = arc_record-width t n tapes in
      let ln : length p ≡ n = (read_all_only state_record_lawful n ss p s).0 in
      let lm : length q ≡ m = (read_all_only (arc_record_lawful t n few) m bs q a).0 in
      let us : recoded line_of_state state_size n ss ≡ write_all state_line.write p = recoded-all state_record state_line.write line_of_state state_each n ss p s in
      let ua : recoded (line_of_arc t) arc_size m bs ≡ write_all (arc_line t n).write q =
      ap (λ (k : ℕ). recoded (line_of_arc t) k m bs) (sym w) ∙ recoded-all (arc_record t n) (arc_line t n).write (line_of_arc t) (arc_each t n few) m bs q a in
      ap₂ (λ (x y : List ℕ). header_line.write (t, (n, m)) ++ (x ++ y)) us ua
      ∙ ap₂ (λ (k j : ℕ). header_line.write (t, (k, j)) ++ (write_all state_line.write p ++ write_all (arc_line t k).write q)) (sym ln) (sym lm)

module _ (m : Memory) (s : Sound m) where
  pub table-written : header_line.write (m.tapes, (m.states, m.arcs)) ++ (recoded line_of_state state_size m.states m.state_bytes ++ recoded (line_of_arc m.tapes) arc_size m.arcs m.arc_bytes)
      ≡ write_table (table_of m)
  unfolding decode_table
  table-written =
      let A = table_of m in
      let c = require-ok (counts_fit m.tapes m.states m.arcs) size _ A (sound_decoded m s) in
      let p = bind_ok (read_all state_record m.states m.state_bytes) _ A c.1 in
      let q = bind_ok (read_all (arc_record m.tapes m.states) m.arcs m.arc_bytes) _ A p.2 in
      let e : ◌≡◌ {A = Automaton ℕ} (record { tapes = m.tapes; states = p.0; arcs = q.0 }) A = cc q.2 in
      records-written m.tapes m.states m.arcs m.state_bytes m.arc_bytes p.0 q.0 (few_tapes m s) (few_states m s) p.1 q.1 ∙ ap write_table e

-- the header, the states and the arcs, printed one behind the other
pub table_printed : (c : Counts) (ss bs xs us vs ws : List ℕ) → Sound (lent c ss bs) → header_width + c.states * state_width + c.arcs * (arc_width + c.tapes * label_width) ≤ length xs
    → us ≡ splice 0 (header_of c) xs → vs ≡ splice header_width (recoded line_of_state state_size c.states ss) us
    → ws ≡ splice (header_width + c.states * state_width) (recoded (line_of_arc c.tapes) arc_size c.arcs bs) vs → ws ≡ overwrite (write_table (table_of (lent c ss bs))) xs
unfolding header_of
table_printed c ss bs xs us vs ws s h e f g =
    let m = lent c ss bs in
    let hd = header_line.write (c.tapes, (c.states, c.arcs)) in
    let st = recoded line_of_state state_size c.states ss in
    let ar = recoded (line_of_arc c.tapes) arc_size c.arcs bs in
    let lh : length hd ≡ header_width = length_header c in
    let ls : length st ≡ c.states * state_width = length_recoded line_of_state state_size state_width state_sized c.states ss (omega (arith, states_lent m s)) in
    let la : length ar ≡ c.arcs * (arc_width + c.tapes * label_width) = length_recoded (line_of_arc c.tapes) arc_size (arc_width + c.tapes * label_width) (λ y k. arc_sized c.tapes y k (few_tapes m s)) c.arcs bs (omega (arith, arcs_lent m s)) in
    let lt : length (hd ++ st) ≡ header_width + c.states * state_width = length-append hd st ∙ omega arith in
    let p = splice-behind 0 header_width hd st xs us vs e f (omega arith) (omega arith) in
    let q = splice-behind 0 (header_width + c.states * state_width) (hd ++ st) ar xs vs ws p g (omega arith) (omega arith) in
    q ∙ ap (λ (z : List ℕ). splice 0 z xs) (append_assoc hd st ar ∙ table-written m s) ∙ splice_front (write_table (table_of m)) xs
