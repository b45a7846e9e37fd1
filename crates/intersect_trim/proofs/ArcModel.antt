-- What the edges and their records mean: the arcs of the result.
use Prim.Native.Nat.{ℕ, suc, ◌+◌, ◌*◌, ◌<◌, ◌≤◌}
use mathlib.Core.Path.{◌≡◌, refl, sym, ap, ap₂, ◌∙◌}
use mathlib.Core.Bool.{Bool, true, false}
use mathlib.Core.Option.{some}
use mathlib.Core.List.{List, [], ◌∷◌, ◌++◌, map}
use native.Mathlib.Omega.{arith}
use lib.ListN.{length, get_or, get_elem?, take, drop}
use lib.Seq.{get_or-take, take_all}
use Rattle.automata.specs.Lists.{if, and, filter, All}
use Rattle.automata.specs.Records.{write_all}
use Rattle.automata.specs.LittleEndian.{little}
use Rattle.automata.specs.TableFormat.{weight_number}
use Rattle.automata.specs.Automaton.{Arc, Automaton}
use Rattle.automata.specs.Config.{Config}
use Rattle.automata.specs.Memory.{Memory, Sound, Holds, table_of, arc_record, label_records, encode_arcs}
use Rattle.automata.specs.Table.{WellFormed, WellFormedArc}
use Rattle.automata.specs.Explore.{Edge}
use Rattle.automata.specs.Trim.{both_marked, ranked, kept_edges}
use Rattle.automata.specs.Intersect.{arc_of}
use Rattle.automata.proofs.ListFacts
use Rattle.automata.proofs.RecordFacts.{All_at}
use Rattle.automata.proofs.SoundFacts.{sound_well_formed, sound_holds}
use Rattle.automata.proofs.MemoryFacts.{arc_field, length_encode_arcs, arc_record_lawful, arc_record-width}
use Rattle.automata.proofs.KeptEdges.{kept_edges_cons}
use Rattle.automata.specs.Layout.{arc_size, content_place, content_size}
use Rattle.table.specs.Region.{part}
use Rattle.table.specs.Endian.{to_le}
use Rattle.intersect_edges.specs.declared.edge.EdgeRecord.{EdgeRecord}
use Rattle.intersect_edges.specs.Edges.{Joined, record_of}
use Rattle.intersect_edges.specs.Marked.{is_mark, bools}
use Rattle.intersect_edges.proofs.MarkFacts.{mark_at_lem}
use Rattle.intersect_trim.specs.Ranks.{Numbered}
use Rattle.intersect_trim.specs.Result.{both_marks, arc_bytes, kept_arcs, ArcsWithin}
use Rattle.intersect_trim.specs.Model.{result_of, EdgeOf}
use Rattle.intersect_trim.proofs.RowFacts.{front_fits}

module _ (n : ℕ) (marks : List ℕ) where
  -- the marks of the first n configurations
  abbrev pub kept : List Bool
  kept = bools (take n marks)

  mark_of : (i : ℕ) → i < n → is_mark (get_or marks i 0) ≡ get_or kept i false
  mark_of i l = ap is_mark (sym (get_or-take n marks i 0 l)) ∙ sym (mark_at_lem (take n marks) i)

  -- both ends are marked
  both_model : (A : Automaton ℕ) (x : Edge (ℕ × Arc ℕ)) → EdgeOf A n x → both_marks marks (record_of x) ≡ both_marked kept x
  both_model A x e = ap₂ and (mark_of x.from e.from) (mark_of x.to e.to)

  -- as many edges are kept
  pub count_model : (A : Automaton ℕ) (es : List (Edge (ℕ × Arc ℕ))) → All (EdgeOf A n) es
      → length (filter (both_marks marks) (map record_of es)) ≡ length (kept_edges kept es)
  unfolding kept_edges
  count_model A [] a = refl
  count_model A (x ∷ es) a =
      ap (λ (b : Bool). length (if b (record_of x ∷ filter (both_marks marks) (map record_of es)) (filter (both_marks marks) (map record_of es)))) (both_model A x a.0)
      ∙ go (both_marked kept x) (count_model A es a.1) ∙ ap length (sym (kept_edges_cons kept x es))
    where
      go : (b : Bool) → length (filter (both_marks marks) (map record_of es)) ≡ length (kept_edges kept es)
          → length (if b (record_of x ∷ filter (both_marks marks) (map record_of es)) (filter (both_marks marks) (map record_of es)))
          ≡ length (if b (ranked kept x ∷ kept_edges kept es) (kept_edges kept es))
      go true e = ap suc e
      go false e = e

-- the edges join configurations below n
pub edges-joined : (A : Automaton ℕ) (n : ℕ) (es : List (Edge (ℕ × Arc ℕ))) → All (EdgeOf A n) es → Joined n (map record_of es)
unfolding Joined
edges-joined A n [] a = tt
edges-joined A n (x ∷ es) a = ((a.0.from, a.0.to), edges-joined A n es a.1)

-- what stands behind the ends in the record of an arc
abbrev behind : ℕ → Arc ℕ → List ℕ
behind tapes a = (weight_number (little 4)).write a.weight ++ (label_records tapes).write a.labels

module _ (m : Memory) (s : Sound m) where
  -- the table in memory
  abbrev A : Automaton ℕ
  A = table_of m

  t : WellFormed A
  t = sound_well_formed m s

  h : Holds m A
  h = sound_holds m s

  -- an arc of the table, and where its record stands
  module _ (j : ℕ) (a : Arc ℕ) (stands : get_elem? A.arcs j ≡ some a) where
    l : j < length A.arcs
    l = ListFacts.place_bound A.arcs j stands

    record_fits : arc_size * j + arc_size ≤ length m.arc_bytes
    record_fits =
        let e = length_encode_arcs A t in
        let b = front_fits (m.arcs * arc_size) m.arc_bytes (encode_arcs A) h.arc_bytes (omega (arith, h.arcs, e)) in
        omega (arith, h.arcs, l)

    length_behind : length (behind A.tapes a) ≡ content_size
    length_behind =
        let d : get_or A.arcs j a ≡ a = ListFacts.place_default A.arcs j a stands in
        let v : WellFormedArc A.tapes (length A.states) a = rw d at (All_at (WellFormedArc A.tapes (length A.states)) A.arcs a j t.arcs l) in
        let e = (arc_record_lawful A.tapes (length A.states) t.counts.states_fit).sized a v in
        let w = arc_record-width A.tapes (length A.states) t.counts.tapes_fit in
        let u : suc (suc (suc (suc (length (behind A.tapes a))))) ≡ arc_size = e ∙ w in
        omega arith

    behind_model : part (arc_size * j + content_place) content_size m.arc_bytes ≡ behind A.tapes a
    unfolding part
    behind_model =
        let z : arc_size * j + content_place ≡ j * arc_size + content_place = omega arith in
        let d : get_or A.arcs j a ≡ a = ListFacts.place_default A.arcs j a stands in
        ap (λ (k : ℕ). take content_size (drop k m.arc_bytes)) z ∙ arc_field m A t h j a (omega (arith, h.arcs, l)) content_place content_size (omega arith)
        ∙ ap (λ (x : Arc ℕ). take content_size (behind A.tapes x)) d ∙ take_all content_size (behind A.tapes a) (omega (arith, length_behind))

  -- the records of the edges' arcs stand in the bytes
  pub arcs_within : (n : ℕ) (es : List (Edge (ℕ × Arc ℕ))) → All (EdgeOf A n) es → ArcsWithin (length m.arc_bytes) (map record_of es)
  unfolding ArcsWithin
  arcs_within n [] a = tt
  arcs_within n (x ∷ es) a = (record_fits x.label.0 x.label.1 a.0.arc, arcs_within n es a.1)

  module _ (n count : ℕ) (marks ranks : List ℕ) (numbers : Numbered (bools (take n marks)) n ranks count) where
    -- the record of an edge is that of the arc
    pub arc_model : (k : ℕ) (x : Edge (ℕ × Arc ℕ)) → EdgeOf A n x
        → arc_bytes ranks m.arc_bytes (record_of x) ≡ (arc_record A.tapes k).write (arc_of (ranked (kept n marks) x))
    unfolding arc_bytes
    arc_model k x e =
        let f = numbers.number x.from e.from in
        let g = numbers.number x.to e.to in
        let b = behind_model x.label.0 x.label.1 e.arc in
        λ i. to_le 2 (f i) ++ (to_le 2 (g i) ++ b i)

    arcs_model : (k : ℕ) (es : List (Edge (ℕ × Arc ℕ))) → All (EdgeOf A n) es
        → kept_arcs marks ranks m.arc_bytes (map record_of es) ≡ write_all (arc_record A.tapes k).write (map arc_of (kept_edges (kept n marks) es))
    unfolding kept_arcs kept_edges
    arcs_model k [] a = refl
    arcs_model k (x ∷ es) a =
        ap (λ (b : Bool). write_all (arc_bytes ranks m.arc_bytes) (if b (record_of x ∷ rest) rest)) (both_model n marks A x a.0)
        ∙ go (both_marked (kept n marks) x) (arc_model k x a.0) (arcs_model k es a.1)
        ∙ ap (λ (ys : List (Edge (ℕ × Arc ℕ))). write_all (arc_record A.tapes k).write (map arc_of ys)) (sym (kept_edges_cons (kept n marks) x es))
      where
        rest : List EdgeRecord
        rest = filter (both_marks marks) (map record_of es)

        go : (b : Bool) → arc_bytes ranks m.arc_bytes (record_of x) ≡ (arc_record A.tapes k).write (arc_of (ranked (kept n marks) x))
            → write_all (arc_bytes ranks m.arc_bytes) (filter (both_marks marks) (map record_of es)) ≡ write_all (arc_record A.tapes k).write (map arc_of (kept_edges (kept n marks) es))
            → write_all (arc_bytes ranks m.arc_bytes) (if b (record_of x ∷ filter (both_marks marks) (map record_of es)) (filter (both_marks marks) (map record_of es)))
            ≡ write_all (arc_record A.tapes k).write (map arc_of (if b (ranked (kept n marks) x ∷ kept_edges (kept n marks) es) (kept_edges (kept n marks) es)))
        go true e f = ap₂ (λ (u v : List ℕ). u ++ v) e f
        go false e f = f

    -- The bytes of the edges between marked configurations are those of the result's arcs.
    pub kept_arcs_model : (cs : List Config) (es : List (Edge (ℕ × Arc ℕ))) → All (EdgeOf A n) es
        → kept_arcs marks ranks m.arc_bytes (map record_of es) ≡ encode_arcs (result_of A (kept n marks) cs es)
    kept_arcs_model cs es a = arcs_model (length (result_of A (kept n marks) cs es).states) es a
