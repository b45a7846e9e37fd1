-- Edges in work space: what is stored is read back, and what is held stays.
use Prim.Native.Nat.{ℕ, zero, suc, ◌+◌, ◌*◌, ◌<◌, ◌≤◌}
use mathlib.Core.Path.{◌≡◌, refl, sym, ap, ap₂, ◌∙◌, subst}
use mathlib.Core.Bool.{Bool, false}
use mathlib.Core.Option.{some}
use mathlib.Core.List.{List, [], ◌∷◌, ◌++◌, map}
use native.Mathlib.Omega.{arith}
use lib.ListN.{length, get_elem?}
use Rattle.automata.specs.Automaton.{Arc}
use Rattle.automata.specs.Explore.{Edge, edge_graph}
use Rattle.automata.specs.Rounds.{visit, sweep, round}
use Rattle.automata.specs.Marks.{mark, marked, coaccessible}
use Rattle.automata.proofs.ListFacts
use Rattle.automata.specs.Layout.{step_size}
use Rattle.table.specs.Region.{part, splice}
use Rattle.table.specs.Endian.{le, to_le}
use Rattle.table.proofs.RegionFacts.{splice-behind, part-splice_in, part_front, part_middle, part_end}
use Rattle.table.proofs.EndianFacts.{le-to_le}
use Rattle.search_rows.proofs.KeptFacts.{part-start, Keeps, stand_none, stand_kept, stand_more, stand_beyond}
use Rattle.intersect_edges.specs.declared.edge.EdgeRecord.{EdgeRecord}
use Rattle.intersect_edges.specs.Edges.{edge_bytes, edge_at, edges_at, record_graph, Joined, record_of, HoldsEdges}

-- ---- one record

-- a record takes up 6 bytes
pub length_edge : (e : EdgeRecord) → length (edge_bytes e) ≡ 6
unfolding edge_bytes
length_edge e = refl

-- a record written number by number
pub edge_stored : (at : ℕ) (e : EdgeRecord) (w w1 w2 w3 : List ℕ) → at + 6 ≤ length w → w1 ≡ splice at (to_le 2 e.from.0) w
    → w2 ≡ splice (at + 2) (to_le 2 e.arc) w1 → w3 ≡ splice (at + 4) (to_le 2 e.to.0) w2 → w3 ≡ splice at (edge_bytes e) w
unfolding edge_bytes
edge_stored at e w w1 w2 w3 h a b c =
    splice-behind at (at + 4) (to_le 2 e.from.0 ++ to_le 2 e.arc) (to_le 2 e.to.0) w w2 w3
    (splice-behind at (at + 2) (to_le 2 e.from.0) (to_le 2 e.arc) w w1 w2 a b (omega arith) (omega arith)) c (omega arith) (omega arith)

-- the numbers of an edge fit into two bytes each
pub record Fits (e : EdgeRecord) : Type 0 where
  pub from : e.from.0 < 65536
  pub arc : e.arc < 65536
  pub to : e.to.0 < 65536

-- a record is read back where it was written
pub edge_back : (at : ℕ) (e : EdgeRecord) (w : List ℕ) → Fits e → at + 6 ≤ length w → edge_at at (splice at (edge_bytes e) w) ≡ e
unfolding edge_bytes
edge_back at e w f h =
    let a = to_le 2 e.from.0 in
    let b = to_le 2 e.arc in
    let c = to_le 2 e.to.0 in
    let r = edge_bytes e in
    let l : length r ≡ 6 = length_edge e in
    let p : part at 2 (splice at r w) ≡ a = part-start at 2 r w (omega arith) (omega arith) ∙ part_front 2 a (b ++ c) refl in
    let q : part (at + 2) 2 (splice at r w) ≡ b = part-splice_in 2 2 at r w (omega arith) (omega arith) ∙ part_middle 2 2 a b c refl refl in
    let s : part (at + 4) 2 (splice at r w) ≡ c = part-splice_in 4 2 at r w (omega arith) (omega arith) ∙ part_end 4 2 (a ++ b) c refl refl in
    λ i. record {
      from = record { 0 = (ap le p ∙ le-to_le 2 e.from.0 f.from) i };
      arc = (ap le q ∙ le-to_le 2 e.arc f.arc) i;
      to = record { 0 = (ap le s ∙ le-to_le 2 e.to.0 f.to) i };
    }

-- a record in bytes that were kept
pub edge_kept : (at : ℕ) (w v : List ℕ) → ((a n : ℕ) → at ≤ a → a + n ≤ at + step_size → part a n v ≡ part a n w) → edge_at at v ≡ edge_at at w
edge_kept at w v k = λ i. record {
  from = record { 0 = le (k at 2 (omega arith) (omega arith) i) };
  arc = le (k (at + 2) 2 (omega arith) (omega arith) i);
  to = record { 0 = le (k (at + 4) 2 (omega arith) (omega arith) i) };
}

-- ---- a list of edges that is held

-- the record of an edge stands at a place, and it is kept where its bytes are
abbrev EdgeStands : Edge (ℕ × Arc ℕ) → ℕ → List ℕ → Type 0
EdgeStands x a w = edge_at a w ≡ record_of x

edge_stays : Keeps EdgeStands EdgeStands
edge_stays x a w v k e = edge_kept a w v k ∙ e

-- nothing is held of no edges
pub holds_none : (at room : ℕ) (w : List ℕ) → HoldsEdges at room [] w
unfolding HoldsEdges
holds_none at room w = stand_none EdgeStands at room w

-- edges in bytes that were kept
pub holds_kept : (at room : ℕ) (es : List (Edge (ℕ × Arc ℕ))) (w v : List ℕ) → ((a n : ℕ) → at ≤ a → part a n v ≡ part a n w) → HoldsEdges at room es w → HoldsEdges at room es v
unfolding HoldsEdges
holds_kept at room es w v k h = stand_kept EdgeStands EdgeStands edge_stays at room es w v k h

-- Writing the record of one edge more behind them.
pub holds_more : (at room : ℕ) (es : List (Edge (ℕ × Arc ℕ))) (x : Edge (ℕ × Arc ℕ)) (w v : List ℕ) → Fits (record_of x) → length es < room
    → at + step_size * room ≤ length w → v ≡ splice (at + step_size * length es) (edge_bytes (record_of x)) w → HoldsEdges at room es w → HoldsEdges at room (es ++ (x ∷ [])) v
unfolding HoldsEdges
holds_more at room es x w v f l h e k = subst (HoldsEdges at room (es ++ (x ∷ []))) (sym e)
    (stand_more EdgeStands edge_stays at room es x (edge_bytes (record_of x)) w (omega (arith, length_edge (record_of x))) l h
    (edge_back (at + step_size * length es) (record_of x) w f (omega arith)) k)

-- Edges past the room are not looked at.
pub holds_beyond : (at room : ℕ) (es more : List (Edge (ℕ × Arc ℕ))) (w : List ℕ) → room ≤ length es → HoldsEdges at room es w → HoldsEdges at room (es ++ more) w
unfolding HoldsEdges
holds_beyond at room es more w l h = stand_beyond EdgeStands at room es more w l h

-- the records are those of the edges
records-from : (at : ℕ) (es : List (Edge (ℕ × Arc ℕ))) (w : List ℕ) → ((j : ℕ) (x : Edge (ℕ × Arc ℕ)) → get_elem? es j ≡ some x → edge_at (at + step_size * j) w ≡ record_of x)
    → edges_at at (length es) w ≡ map record_of es
unfolding edges_at
records-from at [] w h = refl
records-from at (x ∷ es) w h =
    let z : at + step_size * 0 ≡ at = omega arith in
    ap₂ (λ (e : EdgeRecord) (r : List EdgeRecord). e ∷ r) (ap (λ (k : ℕ). edge_at k w) (sym z) ∙ h zero x refl)
    (records-from (at + step_size) es w (λ j y e. let s : at + step_size + step_size * j ≡ at + step_size * suc j = omega arith in ap (λ (k : ℕ). edge_at k w) s ∙ h (suc j) y e))

-- The edges read from work space are the records of those that it holds.
pub edges-held : (at room : ℕ) (es : List (Edge (ℕ × Arc ℕ))) (w : List ℕ) → HoldsEdges at room es w → length es ≤ room → edges_at at (length es) w ≡ map record_of es
unfolding HoldsEdges
edges-held at room es w h l = records-from at es w (λ j x e. let b = ListFacts.place_bound es j e in h j x (omega arith) e)

-- ---- the marks by the records are the marks by the edges

sweep-records : (gs : List (Edge (ℕ × Arc ℕ))) (es : List (Edge (ℕ × Arc ℕ))) (old new : List Bool)
    → sweep (record_graph (map record_of gs)) false (mark (record_graph (map record_of gs))) old new (map record_of es)
    ≡ sweep (edge_graph gs) false (mark (edge_graph gs)) old new es
sweep-records gs [] old new = refl
sweep-records gs (x ∷ es) old new = sweep-records gs es old (visit (edge_graph gs) false (mark (edge_graph gs)) old new x)

rounds_records : (es : List (Edge (ℕ × Arc ℕ))) (n : ℕ) (fs : List Bool) → marked (record_graph (map record_of es)) fs n ≡ marked (edge_graph es) fs n
rounds_records es zero fs = refl
rounds_records es (suc n) fs =
    sweep-records es es (marked (record_graph (map record_of es)) fs n) (marked (record_graph (map record_of es)) fs n)
    ∙ ap (round (edge_graph es) false (mark (edge_graph es))) (rounds_records es n fs)

-- Which vertices lead on to a final one, by the records in work space and by the edges that it holds.
pub coaccessible-held : (at room : ℕ) (es : List (Edge (ℕ × Arc ℕ))) (w : List ℕ) (fs : List Bool) → HoldsEdges at room es w → length es ≤ room
    → coaccessible (record_graph (edges_at at (length es) w)) fs ≡ coaccessible (edge_graph es) fs
coaccessible-held at room es w fs h l =
    ap (λ (rs : List EdgeRecord). coaccessible (record_graph rs) fs) (edges-held at room es w h l) ∙ rounds_records es (length fs) fs

-- edges between configurations below n are edges between configurations below k
pub joined_wider : (n k : ℕ) (rs : List EdgeRecord) → n ≤ k → Joined n rs → Joined k rs
unfolding Joined
joined_wider n k [] h j = tt
joined_wider n k (e ∷ rs) h j = ((omega (arith, j.0.0), omega (arith, j.0.1)), joined_wider n k rs h j.1)
