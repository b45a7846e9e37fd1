-- A table in memory: it is read just where it stands there, the bytes past its records do not matter, and where its
-- fields stand.
use mathlib.Core.Path.{◌≡◌, refl, sym, ap, subst, ◌∙◌}
use mathlib.Core.Bool.{Bool, true, false}
use mathlib.Core.Option.{Option, none, some}
use mathlib.Core.List.{List, [], ◌∷◌, ◌++◌}
use Prim.Native.Nat.{ℕ, zero, suc, ◌+◌, ◌-◌, ◌*◌, ◌^◌, ◌≤◌, ◌<◌}
use native.Mathlib.Nat.{le_of_eq}
use native.Mathlib.Omega.{arith}
use lib.Dec.{T, leb, eqb, leb→le, le→leb, eqb→eq, lit<}
use lib.ListN.{length, get_or, take, drop, length-replicate, length-append, take-append-drop, length-drop}
use lib.Seq.{take_at, drop_at, drop-drop, take_all, length-take-le}
use Rattle.automata.specs.Lists.{and, all, All, Each}
use Rattle.automata.specs.Automaton.{State, Arc, Automaton}
use Rattle.automata.specs.Refusal.{size, form}
use Rattle.automata.specs.Answer.{ok, check, require}
use Rattle.automata.specs.Sequence.{read_all}
use Rattle.automata.specs.Limits.{max_tapes, max_states, max_weight, max_label}
use Rattle.automata.specs.Table.{Weight, Label, Counts, counts_fit, WellFormedState, WellFormed, WellFormedArc}
use Rattle.automata.specs.Symbols.{is_symbol}
use Rattle.automata.specs.Memory.{flag, flagged, weight_record, is_zero, zeros, to_label, from_label, label_record, state_record, arc_record, Memory, encode_states, encode_arcs, encode_table, decode_table, Holds, trim}
use Rattle.automata.specs.Layout.{state_size, arc_size, label_size, labels_place}
use Rattle.automata.proofs.TestFacts.{T_true, and_T, T_and}
use Rattle.automata.proofs.AnswerFacts.{refused≢ok, check-ok, check_pass, bind_ok, require-ok}
use Rattle.automata.proofs.RecordFacts.{All_at, Sized, record_at_lem, field_at}
use Rattle.automata.proofs.FormatFacts.{Lawful, pair_lawful, convert_lawful, place_lawful, followed_lawful, all_sized, length_many, copies_lawful}
use Rattle.automata.proofs.SequenceFacts.{read_all_take, read_all_reads, read_all_only}
use Rattle.automata.proofs.NumberFacts.{little_lawful}
use Rattle.automata.proofs.TableFacts.{counts_fit→Counts, Counts→counts_fit, state_format_lawful, state_number_lawful, weight_number_lawful, arc_format_lawful}

-- ---- a weight that may be absent: a flag, 0 or 1, and a number of 4 bytes, which is 0 where the weight is absent

-- what a flag and a number are read as
flagged-only : (b n : ℕ) (o : Option ℕ) → flagged b n ≡ ok o → Each Weight o × ((b, n) ≡ flag o)
flagged-only zero n o r =
    let s = check-ok (eqb n 0) form none o r in
    rw (← s.1) (tt, ap (λ (k : ℕ). (0, k)) (eqb→eq n 0 s.0))
flagged-only (suc zero) n o r =
    let s = check-ok (leb n max_weight) size (some n) o r in
    rw (← s.1) (leb→le n max_weight s.0, refl)
flagged-only (suc (suc b)) n o r = absurd (refused≢ok r)

pub weight_record_lawful : Lawful weight_record (Each Weight)
weight_record_lawful = convert_lawful (pair_lawful place_lawful (little_lawful 4)) (record { reads = reads'; only = λ p o v r. flagged-only p.0 p.1 o r })
  where
    reads' : (o : Option ℕ) → Each Weight o → (Unit {0} × ((flag o).1 < 256 ^ 4)) × (flagged (flag o).0 (flag o).1 ≡ ok o)
    reads' none v = ((tt, lit< tt), refl)
    reads' (some w) v = ((tt, omega arith), check_pass (leb w max_weight) size (some w) (le→leb w max_weight v))

-- ---- a label: its length and 8 bytes, which are 0 past the length

-- the test for zeros passes on zeros alone
all-zeros : (n : ℕ) → T (all is_zero (zeros n))
all-zeros zero = tt
all-zeros (suc n) = all-zeros n

zeros-only : (x : List ℕ) → T (all is_zero x) → x ≡ zeros (length x)
zeros-only [] t = refl
zeros-only (b ∷ x) t =
    let s = and_T (is_zero b) (all is_zero x) t in
    let e : b ≡ 0 = eqb→eq b 0 s.0 in
    let q : x ≡ zeros (length x) = zeros-only x s.1 in
    rw e (ap (λ (z : List ℕ). 0 ∷ z) q)

All-any : {A : Type 0} (xs : List A) → All (λ x. Unit {0}) xs
All-any [] = tt
All-any (x ∷ xs) = (tt, All-any xs)

-- a label is read back, and nothing else is read as it
to_label_reads : (l : List ℕ) → Label l → to_label (from_label l) ≡ ok l
to_label_reads l v =
    let n = length l in
    let z = zeros (max_label - n) in
    rw (take_at l z n refl, drop_at l z n refl, T_true (and (all is_symbol l) (all is_zero z)) (T_and (all is_symbol l) (all is_zero z) v.1 (all-zeros (max_label - n))))
    (check_pass (leb n max_label) size l (le→leb n max_label v.0))

to_label-only : (p : ℕ × List ℕ) (l : List ℕ) → length p.1 ≡ max_label → to_label p ≡ ok l → Label l × (p ≡ from_label l)
to_label-only p l h r =
    let n = p.0 in
    let x = p.1 in
    let tested = and (all is_symbol (take n x)) (all is_zero (drop n x)) in
    let s = bind_ok (require tested form) (λ t. check (leb n max_label) size (take n x)) l r in
    let t = and_T (all is_symbol (take n x)) (all is_zero (drop n x)) (check-ok tested form tt s.0 s.1).0 in
    let c = check-ok (leb n max_label) size (take n x) l s.2 in
    let d : n ≤ 8 = leb→le n max_label c.0 in
    let e : length (take n x) ≡ n = length-take-le n x (omega arith) in
    let z : drop n x ≡ zeros (max_label - n) = zeros-only (drop n x) t.1 ∙ rw (length-drop, h) in
    rw (← c.1, e, ← z, take-append-drop) ((d, t.0), refl)

pub label_record_lawful : Lawful label_record Label
label_record_lawful = convert_lawful (pair_lawful place_lawful (copies_lawful place_lawful max_label)) (record {
  reads = λ l v.
      let z = zeros (max_label - length l) in
      ((tt, (length-append l z ∙ rw length-replicate (omega arith), All-any (l ++ z))), to_label_reads l v);
  only = λ p l v r. to_label-only p l v.1.0 r;
})

-- ---- states and arcs: their records have the sizes that the layout says

pub state_record_lawful : Lawful state_record WellFormedState
state_record_lawful = state_format_lawful weight_record_lawful

pub arc_record_lawful : (tapes states : ℕ) → states ≤ max_states → Lawful (arc_record tapes states) (WellFormedArc tapes states)
arc_record_lawful tapes states h =
    arc_format_lawful (state_number_lawful states (little_lawful 2) (omega arith)) (weight_number_lawful (little_lawful 4) (lit< tt))
    (followed_lawful (zeros ((max_tapes - tapes) * label_size)) (copies_lawful label_record_lawful tapes))

-- an arc takes up the same bytes, however many tapes there are
pub arc_record-width : (tapes states : ℕ) → tapes ≤ max_tapes → (arc_record tapes states).width ≡ arc_size
arc_record-width tapes states h = rw length-replicate (omega arith)

-- ---- a table

-- a table that stands in memory is read
pub decode_reads : (m : Memory) (t : Automaton ℕ) → WellFormed t → Holds m t → decode_table m ≡ ok t
unfolding decode_table
decode_reads m t w h =
    let c : Counts m.tapes m.states m.arcs = rw (h.tapes, h.states, h.arcs) w.counts in
    let e : (arc_record m.tapes m.states).width ≡ arc_size = arc_record-width m.tapes m.states c.tapes_fit in
    let s = read_all_reads state_record_lawful m.states m.state_bytes t.states w.states (sym h.states) h.state_bytes in
    let a = read_all_reads (arc_record_lawful m.tapes m.states c.states_fit) m.arcs m.arc_bytes t.arcs
    (rw (h.tapes, h.states) w.arcs) (sym h.arcs)
    (ap (λ (k : ℕ). take (m.arcs * k) m.arc_bytes) e ∙ h.arc_bytes ∙ (rw (h.tapes, h.states))) in
    rw (
      T_true (counts_fit m.tapes m.states m.arcs) (Counts→counts_fit m.tapes m.states m.arcs c),
      s.1,
      a.1,
      h.tapes,
    )

module _ (m : Memory) (states : List (State ℕ)) (arcs : List (Arc ℕ)) (c : Counts m.tapes m.states m.arcs) where
  -- what the records say, where none is refused
  records-only : read_all state_record m.states m.state_bytes ≡ ok states → read_all (arc_record m.tapes m.states) m.arcs m.arc_bytes ≡ ok arcs
      → (t : Automaton ℕ) → record { tapes = m.tapes; states = states; arcs = arcs } ≡ t → WellFormed t × Holds m t
  records-only p q t e =
      let s = read_all_only state_record_lawful m.states m.state_bytes states p in
      let a = read_all_only (arc_record_lawful m.tapes m.states c.states_fit) m.arcs m.arc_bytes arcs q in
      let w : (arc_record m.tapes m.states).width ≡ arc_size = arc_record-width m.tapes m.states c.tapes_fit in
      rw (← e) (
        record { counts = rw (s.0, a.0) c; states = s.1; arcs = rw s.0 a.1 },
        record {
          tapes = refl;
          states = sym s.0;
          arcs = sym a.0;
          state_bytes = s.2;
          arc_bytes = ap (λ (k : ℕ). take (m.arcs * k) m.arc_bytes) (sym w) ∙ a.2 ∙ (rw s.0);
        },
      )

-- what is read is a table, and stands in memory
pub decode_only : (m : Memory) (t : Automaton ℕ) → decode_table m ≡ ok t → WellFormed t × Holds m t
unfolding decode_table
decode_only m t r =
    let c = require-ok (counts_fit m.tapes m.states m.arcs) size _ t r in
    let p = bind_ok (read_all state_record m.states m.state_bytes) _ t c.1 in
    let q = bind_ok (read_all (arc_record m.tapes m.states) m.arcs m.arc_bytes) _ t p.2 in
    records-only m p.0 q.0 (counts_fit→Counts m.tapes m.states m.arcs c.0) p.1 q.1 t (cc q.2)

-- the bytes of a table
pub length_encode_states : (t : Automaton ℕ) → WellFormed t → length (encode_states t) ≡ length t.states * state_size
length_encode_states t w = length_many state_record_lawful t.states w.states

pub length_encode_arcs : (t : Automaton ℕ) → WellFormed t → length (encode_arcs t) ≡ length t.arcs * arc_size
length_encode_arcs t w =
    length_many (arc_record_lawful t.tapes (length t.states) w.counts.states_fit) t.arcs w.arcs
    ∙ ap (λ (k : ℕ). length t.arcs * k) (arc_record-width t.tapes (length t.states) w.counts.tapes_fit)

-- a table is read back from where it was written
pub decode_encode : (t : Automaton ℕ) → WellFormed t → decode_table (encode_table t) ≡ ok t
decode_encode t w =
    decode_reads (encode_table t) t w (record {
      tapes = refl;
      states = refl;
      arcs = refl;
      state_bytes = take_all (length t.states * state_size) (encode_states t) (le_of_eq (length_encode_states t w));
      arc_bytes = take_all (length t.arcs * arc_size) (encode_arcs t) (le_of_eq (length_encode_arcs t w));
    })

-- the bytes past the records do not matter, whatever the answer
pub decode_trim : (m : Memory) → decode_table (trim m) ≡ decode_table m
unfolding decode_table
decode_trim m = go (counts_fit m.tapes m.states m.arcs) refl
  where
    go : (b : Bool) → counts_fit m.tapes m.states m.arcs ≡ b → decode_table (trim m) ≡ decode_table m
    go false e = rw e
    go true e =
        let c = counts_fit→Counts m.tapes m.states m.arcs (rw e tt) in
        let f = arc_record m.tapes m.states in
        let w : f.width ≡ arc_size = arc_record-width m.tapes m.states c.tapes_fit in
        let a : read_all f m.arcs (take (m.arcs * arc_size) m.arc_bytes) ≡ read_all f m.arcs m.arc_bytes =
        ap (λ (k : ℕ). read_all f m.arcs (take (m.arcs * k) m.arc_bytes)) (sym w) ∙ read_all_take f m.arcs m.arc_bytes in
        rw (read_all_take state_record m.states m.state_bytes, a)

-- ---- where the fields of a table's records stand

module _ (m : Memory) (t : Automaton ℕ) (w : WellFormed t) (h : Holds m t) (k : ℕ) where
  -- n bytes of the k-th state, from its o-th on
  pub state_field : (d : State ℕ) → k < m.states → (o n : ℕ) → o + n ≤ state_size
      → take n (drop (k * state_size + o) m.state_bytes) ≡ take n (drop o (state_record.write (get_or t.states k d)))
  state_field d l o n e =
      let rest = drop (m.states * state_size) m.state_bytes in
      ap (λ (x : List ℕ). take n (drop (k * state_size + o) x))
      (sym (take-append-drop (m.states * state_size) m.state_bytes) ∙ ap (λ (x : List ℕ). x ++ rest) h.state_bytes)
      ∙ field_at state_record.write state_size d k o n t.states rest (all_sized state_record_lawful t.states w.states) (rw h.states at l) e

  -- n bytes of the k-th arc, from its o-th on
  pub arc_field : (d : Arc ℕ) → k < m.arcs → (o n : ℕ) → o + n ≤ arc_size
      → take n (drop (k * arc_size + o) m.arc_bytes) ≡ take n (drop o ((arc_record t.tapes (length t.states)).write (get_or t.arcs k d)))
  arc_field d l o n e =
      let f = arc_record t.tapes (length t.states) in
      let rest = drop (m.arcs * arc_size) m.arc_bytes in
      let s = subst (λ (z : ℕ). All (Sized f.write z) t.arcs) (arc_record-width t.tapes (length t.states) w.counts.tapes_fit)
      (all_sized (arc_record_lawful t.tapes (length t.states) w.counts.states_fit) t.arcs w.arcs) in
      ap (λ (x : List ℕ). take n (drop (k * arc_size + o) x))
      (sym (take-append-drop (m.arcs * arc_size) m.arc_bytes) ∙ ap (λ (x : List ℕ). x ++ rest) h.arc_bytes)
      ∙ field_at f.write arc_size d k o n t.arcs rest s (rw h.arcs at l) e

  -- the label of the k-th arc on the i-th tape
  pub label_field : (d : Arc ℕ) → k < m.arcs → (i : ℕ) → i < t.tapes
      → take label_size (drop (k * arc_size + (labels_place + i * label_size)) m.arc_bytes) ≡ label_record.write (get_or (get_or t.arcs k d).labels i [])
  label_field d l i e =
      let a = get_or t.arcs k d in
      let v = All_at (WellFormedArc t.tapes (length t.states)) t.arcs d k w.arcs (rw h.arcs at l) in
      arc_field d l (labels_place + i * label_size) label_size (omega (arith, w.counts.tapes_fit))
      ∙ ap (take label_size) (sym (drop-drop (i * label_size) labels_place ((arc_record t.tapes (length t.states)).write a)))
      ∙ record_at_lem label_record.write label_size [] i a.labels (zeros ((max_tapes - t.tapes) * label_size)) (all_sized label_record_lawful a.labels v.labels) (omega (arith, v.width))
