-- A table whose tapes are chosen: its records are those of the table, each with the labels of the chosen tapes.
use Prim.Native.Nat.{ℕ, ◌+◌, ◌-◌, ◌*◌, ◌≤◌, min}
use mathlib.Core.Path.{◌≡◌, refl, sym, ap, ap₂, subst, ◌∙◌}
use mathlib.Core.List.{List, [], ◌∷◌, ◌++◌, append-nil, map}
use native.Mathlib.Omega.{arith}
use lib.ListN.{length, get_or, take, drop, length-append, length-take, length-replicate, length-map, replicate-append-replicate, take-append-drop}
use lib.Seq.{take_all, drop_at, drop-length}
use Rattle.automata.specs.Lists.{All}
use Rattle.automata.specs.Records.{chunks, write_all}
use Rattle.automata.specs.Automaton.{Arc, Automaton}
use Rattle.automata.specs.Table.{Label, WellFormed, WellFormedArc}
use Rattle.automata.specs.Memory.{Memory, Holds, zeros, label_record, arc_record, encode_states, encode_arcs}
use Rattle.automata.specs.Tapes.{chosen}
use Rattle.automata.specs.Projection.{relabelled_arc, projected}
use Rattle.automata.specs.Answer.{ok}
use Rattle.automata.specs.Calls.Outcome.{overwrite, put, made_of, slices_of}
use Rattle.automata.proofs.RecordFacts.{All_at, Sized, record_at_lem, chunks_write_all}
use Rattle.automata.proofs.FormatFacts.{all_sized, length_many}
use Rattle.automata.proofs.MemoryFacts.{label_record_lawful, arc_record_lawful, arc_record-width, length_encode_states, length_encode_arcs}
use Rattle.automata.proofs.CallFacts.{put-ok}
use Rattle.automata.specs.Layout.{arc_size, state_size, label_size, labels_size, labels_place}
use Rattle.table.specs.Region.{part, splice}
use Rattle.table.proofs.RegionFacts.{splice_front}
use Rattle.tapes_records.specs.Rewritten.{rewritten, chosen_labels, chosen_arc}
use Rattle.tapes_records.proofs.RewriteFacts.{length_rewritten, length_chosen_arc}

-- each of a list is one of so many tapes
abbrev pub Named : ℕ → List ℕ → Type 0
Named tapes js = All (λ j. (1 ≤ j) × (j ≤ tapes)) js

-- zeros behind the front
zeros-behind : (n m : ℕ) → n + m ≡ labels_size → drop n (zeros labels_size) ≡ zeros m
zeros-behind n m e =
    ap (λ (k : ℕ). drop n (zeros k)) (sym e) ∙ ap (drop n) (sym (replicate-append-replicate n m 0)) ∙ drop_at (zeros n) (zeros m) n (length-replicate n 0)

-- ---- one arc

-- the label on a tape
label_chosen : (ls : List (List ℕ)) (rest : List ℕ) (j : ℕ) → All Label ls → 1 ≤ j → j ≤ length ls
    → part (label_size * (j - 1)) label_size (write_all label_record.write ls ++ rest) ≡ label_record.write (get_or ls (j - 1) [])
unfolding part
label_chosen ls rest j v p q =
    let e : label_size * (j - 1) ≡ (j - 1) * label_size = omega arith in
    ap (λ (k : ℕ). take label_size (drop k (write_all label_record.write ls ++ rest))) e
    ∙ record_at_lem label_record.write label_size [] (j - 1) ls rest (all_sized label_record_lawful ls v) (omega arith)

-- the labels on the tapes of a list
labels_chosen : (ls : List (List ℕ)) (rest js : List ℕ) → All Label ls → Named (length ls) js
    → chosen_labels js (write_all label_record.write ls ++ rest) ≡ write_all label_record.write (chosen js ls)
unfolding chosen_labels
labels_chosen ls rest [] v h = refl
labels_chosen ls rest (j ∷ js) v h = ap₂ (λ (x y : List ℕ). x ++ y) (label_chosen ls rest j v h.0.0 h.0.1) (labels_chosen ls rest js v h.1)

-- they are labels
chosen_labels_lem : (ls : List (List ℕ)) (js : List ℕ) → All Label ls → Named (length ls) js → All Label (chosen js ls)
chosen_labels_lem ls [] v h = tt
chosen_labels_lem ls (j ∷ js) v h = (All_at Label ls [] (j - 1) v (omega (arith, h.0)), chosen_labels_lem ls js v h.1)

module _ (tapes states : ℕ) (js : List ℕ) (few : tapes ≤ 8) (short : length js ≤ 8) (named : Named tapes js) where
  -- the record of an arc
  arc-rewritten : (a : Arc ℕ) → WellFormedArc tapes states a
      → chosen_arc js ((arc_record tapes states).write a) ≡ (arc_record (length js) states).write (relabelled_arc (chosen js) a)
  unfolding chosen_arc part splice
  arc-rewritten a w =
      let ls = a.labels in
      let r = (arc_record tapes states).write a in
      let x = write_all label_record.write ls ++ zeros ((8 - tapes) * label_size) in
      let y = write_all label_record.write (chosen js ls) in
      let m : Named (length ls) js = subst (λ (n : ℕ). Named n js) (sym w.width) named in
      let l : length x ≡ length ls * label_size + (8 - tapes) * label_size =
      length-append (write_all label_record.write ls) (zeros ((8 - tapes) * label_size)) ∙ ap₂ (λ (i k : ℕ). i + k) (length_many label_record_lawful ls w.labels) (length-replicate ((8 - tapes) * label_size) 0) in
      let n : length y ≡ length js * label_size = length_many label_record_lawful (chosen js ls) (chosen_labels_lem ls js w.labels m) ∙ ap (λ (k : ℕ). k * label_size) (length-map js (λ j. get_or ls (j - 1) [])) in
      let t : take labels_size x ≡ x = take_all labels_size x (omega (arith, l, w.width, few)) in
      let z : drop (length y) (zeros labels_size) ≡ zeros ((8 - length js) * label_size) = zeros-behind (length y) ((8 - length js) * label_size) (omega (arith, n, short)) in
      let u = splice 0 (chosen_labels js (take labels_size x)) (zeros labels_size) in
      let v : u ≡ y ++ zeros ((8 - length js) * label_size) =
      ap (λ (k : List ℕ). splice 0 (chosen_labels js k) (zeros labels_size)) t ∙ ap (λ (k : List ℕ). splice 0 k (zeros labels_size)) (labels_chosen ls (zeros ((8 - tapes) * label_size)) js w.labels m)
      ∙ splice_front y (zeros labels_size) ∙ ap (λ (k : List ℕ). y ++ k) z in
      let lu : length u ≡ length x = ap length v ∙ length-append y (zeros ((8 - length js) * label_size)) ∙ rw (n, length-replicate) (omega (arith, l, w.width, few, short)) in
      let e : drop (labels_place + length u) r ≡ [] = ap (λ (k : ℕ). drop (labels_place + k) r) lu ∙ ap (λ (k : ℕ). drop k r) (sym (length-append (take labels_place r) x)) ∙ drop-length r in
      ap (λ (k : List ℕ). take labels_place r ++ (u ++ k)) e ∙ ap (λ (k : List ℕ). take labels_place r ++ k) (append-nil u ∙ v)

  -- the records of arcs
  arcs_rewritten : (xs : List (Arc ℕ)) → All (WellFormedArc tapes states) xs
      → write_all (chosen_arc js) (map (arc_record tapes states).write xs) ≡ write_all (arc_record (length js) states).write (map (relabelled_arc (chosen js)) xs)
  arcs_rewritten [] w = refl
  arcs_rewritten (a ∷ xs) w = ap₂ (λ (x y : List ℕ). x ++ y) (arc-rewritten a w.0) (arcs_rewritten xs w.1)

-- ---- a table in memory

module _ (m : Memory) (T : Automaton ℕ) (w : WellFormed T) (h : Holds m T) where
  -- the size of each record of an arc
  arcs_sized : All (Sized (arc_record T.tapes (length T.states)).write arc_size) T.arcs
  arcs_sized = subst (λ (z : ℕ). All (Sized (arc_record T.tapes (length T.states)).write z) T.arcs)
      (arc_record-width T.tapes (length T.states) w.counts.tapes_fit)
      (all_sized (arc_record_lawful T.tapes (length T.states) w.counts.states_fit) T.arcs w.arcs)

  -- the records of its arcs, one by one
  pub arcs_cut : chunks arc_size m.arcs m.arc_bytes ≡ map (arc_record T.tapes (length T.states)).write T.arcs
  arcs_cut =
      let rest = drop (m.arcs * arc_size) m.arc_bytes in
      ap₂ (λ (n : ℕ) (x : List ℕ). chunks arc_size n x) h.arcs (sym (take-append-drop (m.arcs * arc_size) m.arc_bytes) ∙ ap (λ (x : List ℕ). x ++ rest) h.arc_bytes)
      ∙ chunks_write_all (arc_record T.tapes (length T.states)).write arc_size T.arcs rest arcs_sized

  -- the states stand where they would be written
  pub states_stand : overwrite (encode_states T) m.state_bytes ≡ m.state_bytes
  states_stand =
      let n = length_encode_states T w in
      let e : length (encode_states T) ≡ m.states * state_size = n ∙ ap (λ (k : ℕ). k * state_size) (sym h.states) in
      ap₂ (λ (x : List ℕ) (k : ℕ). x ++ drop k m.state_bytes) (sym h.state_bytes) e ∙ take-append-drop (m.states * state_size) m.state_bytes

  module _ (js : List ℕ) (short : length js ≤ 8) (named : Named m.tapes js) where
    -- the arcs with the chosen tapes
    pub table-rewritten : rewritten (chosen_arc js) m.arcs m.arc_bytes ≡ encode_arcs (projected js T)
    unfolding rewritten
    table-rewritten =
        ap (write_all (chosen_arc js)) arcs_cut
        ∙ arcs_rewritten T.tapes (length T.states) js w.counts.tapes_fit short (subst (λ (n : ℕ). Named n js) h.tapes named) T.arcs w.arcs

    -- they take up as many bytes as before
    pub length_projected : length (encode_arcs (projected js T)) ≡ arc_size * m.arcs
    length_projected =
        let e = ap length h.arc_bytes ∙ length_encode_arcs T w in
        let t : length (take (m.arcs * arc_size) m.arc_bytes) ≡ min (m.arcs * arc_size) (length m.arc_bytes) = length-take (m.arcs * arc_size) m.arc_bytes in
        ap length (sym table-rewritten)
        ∙ length_rewritten (chosen_arc js) (λ arc. length_chosen_arc js arc short) m.arcs m.arc_bytes (omega (arith, e, t, h.arcs))

    -- chosen in place
    pub chosen_in_place : (arcs2 : List ℕ) → arcs2 ≡ splice 0 (rewritten (chosen_arc js) m.arcs m.arc_bytes) m.arc_bytes
        → made_of (ok (record { tapes = length js; states = m.states; arcs = m.arcs })) m.state_bytes arcs2 ≡ put (ok (projected js T)) (slices_of m.state_bytes m.arc_bytes)
    chosen_in_place arcs2 e =
        let f : arcs2 ≡ overwrite (encode_arcs (projected js T)) m.arc_bytes =
        e ∙ ap (λ (x : List ℕ). splice 0 x m.arc_bytes) table-rewritten ∙ splice_front (encode_arcs (projected js T)) m.arc_bytes in
        let g : m.arcs ≡ length (map (relabelled_arc (chosen js)) T.arcs) = h.arcs ∙ sym (length-map T.arcs (relabelled_arc (chosen js))) in
        (λ i. made_of (ok (record { tapes = length js; states = h.states i; arcs = g i })) (sym states_stand i) (f i))
        ∙ sym (put-ok (slices_of m.state_bytes m.arc_bytes) (projected js T))
