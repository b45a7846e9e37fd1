-- What the rows and the moves in work space mean: the states and the arcs of the product.
use mathlib.Core.Path.{◌≡◌, refl, sym, ap, ap₂, subst, ◌∙◌}
use mathlib.Core.Option.{some}
use mathlib.Core.List.{List, [], ◌∷◌, ◌++◌, map, append_assoc}
use Prim.Native.Nat.{ℕ, zero, suc, ◌+◌, ◌-◌, ◌*◌, ◌≤◌, ◌<◌}
use native.Mathlib.Omega.{arith}
use lib.ListN.{length, get_elem?, get_or, drop}
use Rattle.automata.specs.Lists.{and, all, All}
use Rattle.automata.specs.Records.{write_all}
use Rattle.automata.specs.OrderedSum.{ℕ_sum}
use Rattle.automata.specs.Automaton as automata
use Rattle.automata.specs.Automaton.{Automaton, Arc, Content}
use Rattle.automata.specs.System.{vertex_state, step_arc}
use Rattle.automata.specs.Explore.{Edge}
use Rattle.automata.specs.Product as product
use Rattle.automata.specs.Product.{added, fits_at, same_vertex, product_system}
use Rattle.automata.specs.Tapes.{empty_tuple}
use Rattle.automata.specs.Table.{weight_fits}
use Rattle.automata.specs.Memory.{Memory, Sound, table_of, zeros, label_record, state_record, arc_record}
use Rattle.automata.proofs.ListFacts.{place_bound}
use Rattle.automata.proofs.RecordFacts.{write_all_append}
use Rattle.automata.proofs.WellFormedFacts.{all-place}
use Rattle.automata.proofs.SoundFacts.{sound_holds}
use Rattle.automata.specs.Layout.{step_size, vertex_size, label_size, labels_size}
use Rattle.table.specs.Region.{part}
use Rattle.table.specs.Endian.{le, to_le}
use Rattle.table.specs.Records.{option_of, state_as}
use Rattle.std.specs.Prelude.{Some, None}
use Rattle.table.specs.Records.{Weight}
use Rattle.table.proofs.RegionFacts.{part-part}
use Rattle.table.proofs.EndianFacts.{le-to_le}
use Rattle.search_chains.specs.Chain.{fronts}
use Rattle.search_chains.proofs.Meaning.{code_at}
use Rattle.table.proofs.EncodedFacts.{state_encoded}
use Rattle.product_search.specs.declared.vertex.Vertex.{Vertex}
use Rattle.product_search.specs.declared.vertex.Move.{Move}
use Rattle.product_search.specs.Vertices.{place_number, vertex_of, vertex_bytes, vertex_at, row_of, HoldsVertices, VertexBelow}
use Rattle.product_search.specs.Moves.{move_at, Carries, by_both, by_second, by_first, RecordOf}
use Rattle.product_records.specs.Sums.{place_state, plus, plus_state, vertex_sum, side_sum, move_sum, side_labels, move_front, move_labels, move_record, vertices_at, moves_at, VertexFits, MoveFits}
use Rattle.product_records.specs.Results.{states_fit, state_records, Vertices, moves_fit, move_records, Moves}
use Rattle.product.proofs.SideModel.{SideOf, place_model, place_fits, place-number, side_follows, side_stays}

-- ---- rows

-- the two numbers of a row
row_read : (at : ℕ) (w : List ℕ) (x y : ℕ) → x < 65536 → y < 65536 → part at 4 w ≡ to_le 2 x ++ to_le 2 y
    → ((vertex_at at w).first.0 ≡ x) × ((vertex_at at w).second.0 ≡ y)
unfolding part
row_read at w x y hx hy e =
    let z : at + 0 ≡ at = omega arith in
    let p : part at 2 w ≡ to_le 2 x = ap (λ (k : ℕ). part k 2 w) (sym z) ∙ sym (part-part 0 2 at 4 w (omega arith)) ∙ ap (part 0 2) e in
    let q : part (at + 2) 2 w ≡ to_le 2 y = sym (part-part 2 2 at 4 w (omega arith)) ∙ ap (part 2 2) e in
    (ap le p ∙ le-to_le 2 x (omega (arith, hx)), ap le q ∙ le-to_le 2 y (omega (arith, hy)))

-- two weights by value added
added_model : (v w : Weight) → option_of (plus v w) ≡ added ℕ_sum (option_of v) (option_of w)
added_model None w = refl
added_model (Some x) None = refl
added_model (Some x) (Some y) = refl

module _ (a b : Memory) (sa : Sound a) (sb : Sound b) where
  -- the two tables in memory, and what is below their states
  abbrev A : Automaton ℕ
  A = table_of a

  abbrev B : Automaton ℕ
  B = table_of b

  abbrev Below : product.Vertex → Type 0
  Below = VertexBelow (length A.states) (length B.states)

  -- ---- a state of the product

  pub vertex_fits : (c : product.Vertex) → Below c → VertexFits a.state_bytes b.state_bytes (vertex_of c)
  vertex_fits c h = record { first = place_fits a sa c.0 h.0; second = place_fits b sb c.1 h.1 }

  pub vertex_model : (cs : List product.Vertex) (c : product.Vertex) → Below c
      → state_as (vertex_sum a.state_bytes b.state_bytes (vertex_of c)) ≡ vertex_state same_vertex (product_system ℕ_sum A B) cs c
  unfolding vertex_sum
  vertex_model cs c h =
      let p = place_state a.state_bytes (place_number c.0) in
      let q = place_state b.state_bytes (place_number c.1) in
      let e : state_as (plus_state p q)
      ≡ record { initial = added ℕ_sum (state_as p).initial (state_as q).initial; final = added ℕ_sum (state_as p).final (state_as q).final } =
      λ i. record { initial = added_model p.initial q.initial i; final = added_model p.last q.last i } in
      e ∙ (λ i. record {
        initial = added ℕ_sum (place_model a sa c.0 h.0 i).initial (place_model b sb c.1 h.1 i).initial;
        final = added ℕ_sum (place_model a sa c.0 h.0 i).final (place_model b sb c.1 h.1 i).final;
      })

  -- ---- all states

  module _ (w : List ℕ) where
    row_vertex : (at : ℕ) (c : product.Vertex) → Below c → part at 4 w ≡ row_of c → vertex_at at w ≡ vertex_of c
    unfolding vertex_bytes
    row_vertex at c h e =
        let r = row_read at w (place_number c.0) (place_number c.1) (place-number a sa c.0 h.0) (place-number b sb c.1 h.1) e in
        λ i. record { first = record { 0 = r.0 i }; second = record { 0 = r.1 i } }

    -- the rows are those of the states
    pub vertices_held : (at : ℕ) (cs : List product.Vertex) → All Below cs → fronts at vertex_size 4 (length cs) w ≡ map row_of cs → vertices_at at (length cs) w ≡ map vertex_of cs
    unfolding vertices_at fronts
    vertices_held at [] h e = refl
    vertices_held at (c ∷ cs) h e =
        ap₂ (λ (v : Vertex) (vs : List Vertex). v ∷ vs) (row_vertex at c h.0 (ap (λ (rs : List (List ℕ)). get_or rs 0 []) e))
        (vertices_held (at + vertex_size) cs h.1 (ap (λ (rs : List (List ℕ)). drop 1 rs) e))

  -- the places of the states are within the bytes
  pub vertices_fit : (cs : List product.Vertex) → All Below cs → Vertices a.state_bytes b.state_bytes (map vertex_of cs)
  unfolding Vertices
  vertices_fit [] h = tt
  vertices_fit (c ∷ cs) h = (vertex_fits c h.0, vertices_fit cs h.1)

  -- whether their weights are in range
  pub states_judged_lem : (ds cs : List product.Vertex) → All Below cs → states_fit a.state_bytes b.state_bytes (map vertex_of cs)
      ≡ all (λ s. and (fits_at weight_fits s.initial) (fits_at weight_fits s.final)) (map (vertex_state same_vertex (product_system ℕ_sum A B) ds) cs)
  unfolding states_fit
  states_judged_lem ds [] h = refl
  states_judged_lem ds (c ∷ cs) h =
      ap₂ and (ap (λ (s : automata.State ℕ). and (fits_at weight_fits s.initial) (fits_at weight_fits s.final)) (vertex_model ds c h.0)) (states_judged_lem ds cs h.1)

  -- their records
  pub states_encoded : (ds cs : List product.Vertex) → All Below cs → state_records a.state_bytes b.state_bytes (map vertex_of cs)
      ≡ write_all state_record.write (map (vertex_state same_vertex (product_system ℕ_sum A B) ds) cs)
  unfolding state_records
  states_encoded ds [] h = refl
  states_encoded ds (c ∷ cs) h =
      ap₂ (λ (x y : List ℕ). x ++ y)
      (state_encoded (vertex_sum a.state_bytes b.state_bytes (vertex_of c)) ∙ ap state_record.write (vertex_model ds c h.0)) (states_encoded ds cs h.1)

  -- ---- a move

  -- what a move carries comes from its two sides
  record Sides (i j p q : ℕ) (s : Content ℕ) : Type 0 where
    first-weight : ℕ
    second-weight : ℕ
    labels-starts : List (List ℕ)
    second-labels : List (List ℕ)
    first : SideOf a i p first-weight labels-starts
    second : SideOf b j q second-weight second-labels
    weight_is : s.weight ≡ first-weight + second-weight
    labels-are : s.labels ≡ labels-starts ++ second-labels

  sides : (c : product.Vertex) (i j : ℕ) (s : Content ℕ) → Below c → Carries A B c i j s → Sides i j (place_number c.0) (place_number c.1) s
  sides c _ _ _ h (by_both {i} {j} {a = x} {b = y} e f) = record {
    first-weight = x.weight;
    second-weight = y.weight;
    labels-starts = x.labels;
    second-labels = y.labels;
    first = side_follows a sa i x e c.0 h.0;
    second = side_follows b sb j y f c.1 h.1;
    weight_is = refl;
    labels-are = refl;
  }
  sides c _ _ _ h (by_second {j} {f = u} {b = y} e f) = record {
    first-weight = u;
    second-weight = y.weight;
    labels-starts = empty_tuple A.tapes;
    second-labels = y.labels;
    first = side_stays a sa c.0 u h.0 e;
    second = side_follows b sb j y f c.1 h.1;
    weight_is = refl;
    labels-are = refl;
  }
  sides c _ _ _ h (by_first {i} {g = u} {a = x} e f) = record {
    first-weight = x.weight;
    second-weight = u;
    labels-starts = x.labels;
    second-labels = empty_tuple B.tapes;
    first = side_follows a sa i x f c.0 h.0;
    second = side_stays b sb c.1 u h.1 e;
    weight_is = refl;
    labels-are = refl;
  }

  -- ---- a move as an arc, between states cs that stand in w
  module _ (few : A.tapes + B.tapes ≤ 8) (w : List ℕ) (cs : List product.Vertex) (bound : All Below cs) (long : vertex_size * length cs ≤ length w) (held : HoldsVertices cs w) where
    -- the row of a state
    row_of_lem : (q : ℕ) (c : product.Vertex) → get_elem? cs q ≡ some c
        → ((vertex_at (vertex_size * q) w).first.0 ≡ place_number c.0) × ((vertex_at (vertex_size * q) w).second.0 ≡ place_number c.1)
    unfolding vertex_bytes
    row_of_lem q c at =
        let l = place_bound cs q at in
        let h = all-place Below cs bound q c at in
        let z : q * vertex_size ≡ vertex_size * q = omega arith in
        let e : part (vertex_size * q) 4 w ≡ row_of c = ap (λ (k : ℕ). part k 4 w) (sym z) ∙ code_at row_of vertex_size 4 cs w q c held at in
        row_read (vertex_size * q) w (place_number c.0) (place_number c.1) (place-number a sa c.0 h.0) (place-number b sb c.1 h.1) e

    -- what is needed of a move: it is within the bytes, and its weight and its record are those of the arc
    record ArcOf (k : ℕ) (x : Edge (Content ℕ)) (m : Move) : Type 0 where
      fits : MoveFits a.state_bytes a.arc_bytes b.state_bytes b.arc_bytes w m
      weighs : move_sum a.state_bytes a.arc_bytes b.state_bytes b.arc_bytes w m ≡ x.label.weight
      written : move_record a.state_bytes a.arc_bytes b.state_bytes b.arc_bytes w a.tapes b.tapes m
          ≡ (arc_record (A.tapes + B.tapes) k).write (step_arc x)

    -- the labels of both sides
    labels_written : (i j p q : ℕ) (s : Content ℕ) (d : Sides i j p q s)
        → side_labels a.arc_bytes a.tapes i ++ (side_labels b.arc_bytes b.tapes j ++ zeros (labels_size - label_size * a.tapes - label_size * b.tapes))
        ≡ write_all label_record.write s.labels ++ zeros ((8 - (A.tapes + B.tapes)) * label_size)
    labels_written i j p q s d =
        let f = label_record.write in
        let x = write_all f d.labels-starts in
        let y = write_all f d.second-labels in
        let z : labels_size - label_size * a.tapes - label_size * b.tapes ≡ (8 - (A.tapes + B.tapes)) * label_size = omega (arith, few, (sound_holds a sa).tapes, (sound_holds b sb).tapes) in
        (λ k. d.first.written k ++ (d.second.written k ++ zeros (z k)))
        ∙ sym (append_assoc x y (zeros ((8 - (A.tapes + B.tapes)) * label_size)))
        ∙ ap (λ (l : List ℕ). l ++ zeros ((8 - (A.tapes + B.tapes)) * label_size))
        (sym (write_all_append f d.labels-starts d.second-labels) ∙ ap (write_all f) (sym d.labels-are))

    arc_of_lem : (k : ℕ) (x : Edge (Content ℕ)) (m : Move) → RecordOf A B cs x m → ArcOf k x m
    unfolding move_sum move_record move_front move_labels
    arc_of_lem k x m r =
        let c = r.vertex in
        let at : get_elem? cs m.from.0 ≡ some c = ap (λ (q : ℕ). get_elem? cs q) r.from_is ∙ r.at_from in
        let l = place_bound cs m.from.0 at in
        let row = row_of_lem m.from.0 c at in
        let h = all-place Below cs bound m.from.0 c at in
        let d : Sides m.first m.second (place_number c.0) (place_number c.1) x.label = sides c m.first m.second x.label h r.carried in
        let weighs : move_sum a.state_bytes a.arc_bytes b.state_bytes b.arc_bytes w m ≡ x.label.weight =
        ap₂ (λ (p q : ℕ). side_sum a.state_bytes a.arc_bytes m.first p + side_sum b.state_bytes b.arc_bytes m.second q) row.0 row.1
        ∙ ap₂ (λ (u v : ℕ). u + v) d.first.sum d.second.sum ∙ sym d.weight_is in
        record {
          fits = record { row = omega (arith, l, long); first = rw row.0 d.first.fits; second = rw row.1 d.second.fits };
          weighs = weighs;
          written = λ i. to_le 2 (r.from_is i) ++ (to_le 2 (r.to_is i) ++ (to_le 4 (weighs i) ++ labels_written m.first m.second (place_number c.0) (place_number c.1) x.label d i));
        }

    -- ---- all moves

    -- the edges stand from place at on
    abbrev Stand : ℕ → List (Edge (Content ℕ)) → Type 0
    Stand at es = (j : ℕ) (x : Edge (Content ℕ)) → get_elem? es j ≡ some x → RecordOf A B cs x (move_at (at + step_size * j) w)

    stand_first : (at : ℕ) (x : Edge (Content ℕ)) (es : List (Edge (Content ℕ))) → Stand at (x ∷ es) → RecordOf A B cs x (move_at at w)
    stand_first at x es h = subst (λ (k : ℕ). RecordOf A B cs x (move_at k w)) (omega arith) (h zero x refl)

    stand_rest : (at : ℕ) (x : Edge (Content ℕ)) (es : List (Edge (Content ℕ))) → Stand at (x ∷ es) → Stand (at + step_size) es
    stand_rest at x es h j y e = subst (λ (k : ℕ). RecordOf A B cs y (move_at k w)) (omega arith) (h (suc j) y e)

    -- their arcs are within the bytes
    pub moves_fit_lem : (at : ℕ) (es : List (Edge (Content ℕ))) → Stand at es → Moves a.state_bytes a.arc_bytes b.state_bytes b.arc_bytes w (moves_at at (length es) w)
    unfolding Moves moves_at
    moves_fit_lem at [] h = tt
    moves_fit_lem at (x ∷ es) h = ((arc_of_lem zero x (move_at at w) (stand_first at x es h)).fits, moves_fit_lem (at + step_size) es (stand_rest at x es h))

    -- whether their weights are in range
    pub moves_judged : (at : ℕ) (es : List (Edge (Content ℕ))) → Stand at es
        → moves_fit a.state_bytes a.arc_bytes b.state_bytes b.arc_bytes w (moves_at at (length es) w) ≡ all (λ (x : Arc ℕ). weight_fits x.weight) (map step_arc es)
    unfolding moves_fit moves_at
    moves_judged at [] h = refl
    moves_judged at (x ∷ es) h =
        ap₂ and (ap weight_fits (arc_of_lem zero x (move_at at w) (stand_first at x es h)).weighs) (moves_judged (at + step_size) es (stand_rest at x es h))

    -- their records
    pub moves_encoded : (k at : ℕ) (es : List (Edge (Content ℕ))) → Stand at es
        → move_records a.state_bytes a.arc_bytes b.state_bytes b.arc_bytes w a.tapes b.tapes (moves_at at (length es) w)
        ≡ write_all (arc_record (A.tapes + B.tapes) k).write (map step_arc es)
    unfolding move_records moves_at
    moves_encoded k at [] h = refl
    moves_encoded k at (x ∷ es) h =
        ap₂ (λ (u v : List ℕ). u ++ v) (arc_of_lem k x (move_at at w) (stand_first at x es h)).written (moves_encoded k (at + step_size) es (stand_rest at x es h))
