-- The product keeps the order: states in the order first reached from the pairs of initial states, arcs by source
-- state, then in the order of the moves.
use mathlib.Core.Path.{◌≡◌, refl, sym, ◌∙◌, ap, subst}
use mathlib.Core.Bool.{Bool, true, false}
use mathlib.Core.Option.{some}
use mathlib.Core.List.{List, [], ◌∷◌, ◌++◌, map}
use Prim.Native.Nat.{ℕ, zero, ◌+◌, ◌≤◌}
use native.Mathlib.Omega.{arith}
use lib.ListN.{length, length-map, get_or, get_elem?}
use Rattle.automata.specs.Lists.{◌∈◌, concat, numbered, map_maybe, guard, cons_maybe}
use Rattle.automata.specs.OrderedSum.{OrderedSum}
use Rattle.automata.specs.Answer.{ok}
use Rattle.automata.specs.Space.{Space}
use Rattle.automata.specs.Automaton.{Arc, Automaton, Content, content, initial_of}
use Rattle.automata.specs.Explore.{Edge, member, index_of, edge_to, edges, successors, reached}
use Rattle.automata.specs.System.{system, initial_at, step_arc, vertex_state, numbered_automaton}
use Rattle.automata.specs.Product.{Vertex, same_vertex, added, all_pairs, initials_from, product_system, product_states, cross_product}
use Rattle.automata.specs.Projection.{range}
use Rattle.automata.proofs.ListFacts
use Rattle.automata.proofs.PairwiseFacts
use Rattle.automata.proofs.Membership.{place_map, place_map⁻¹}
use Rattle.automata.proofs.Explored.{reached-again}
use Rattle.automata.proofs.Edges.{edges_members, edges_keeps}
use Rattle.automata.proofs.Numbering.{initial_numbered}
use Rattle.automata.proofs.ProductStates.{vertices_decided, added⁻¹, initial_at⁻¹, initial_listed, gave_product, pairs_in_lem}
use Rattle.laws.specs.Order.{Key, KeyedGraph, Arrival, step, ◌⊏◌, Ordered, table_graph, OrderedTable, pair_key, Moves, product_graph, ProductOrder}
use Rattle.laws.proofs.Lemmas.Sorted.{map_map}
use Rattle.laws.proofs.Lemmas.OrderFacts.{listed, reached_ordered, ordered_iff}
use Rattle.laws.proofs.Lemmas.NumberOrder.{by_number, numbers_ordered, edges_increase}
use Rattle.laws.proofs.Lemmas.ProductMoves.{initials_members, initials_increase, pairs_members, pairs_increase, Keyed, forget, keyed_out, out-forget, keyed_increase, keyed_moves, moves_keyed}

module _ (S : OrderedSum) (A B : Automaton S.W) where
  open S use {W}

  -- the pairs of initial states
  abbrev initials : List Vertex
  initials = all_pairs (initials_from zero A.states) (initials_from zero B.states)

  -- they lead to the same states
  successors-forget : (c : Vertex) → successors (keyed_out S A B) c ≡ successors (product_system S A B).out c
  successors-forget c = sym (map_map (λ (s : Content W × Vertex). s.1) (forget S A B) (keyed_out S A B c)) ∙ ap (map (λ (s : Content W × Vertex). s.1)) (out-forget S A B c)

  module _ (cap : ℕ) (small : length (product_states S cap A B) ≤ cap) where
    -- the states are the same, found by moves with keys
    found_again : reached same_vertex (keyed_out S A B) cap initials ≡ product_states S cap A B
    found_again = reached-again same_vertex vertices_decided (product_system S A B).out (keyed_out S A B) initials cap cap (omega arith) small (λ c m. successors-forget c)

    abbrev keyed_graph : KeyedGraph Vertex
    keyed_graph = listed pair_key (λ (l : Key × Content W). l.0) initials (keyed_out S A B)

    keyed_ordered : Ordered keyed_graph (product_states S cap A B)
    keyed_ordered = subst (Ordered keyed_graph) found_again
        (reached_ordered same_vertex vertices_decided pair_key (λ l. l.0) initials (keyed_out S A B)
        (pairs_increase (initials_from zero A.states) (initials_from zero B.states) (initials_increase zero A.states) (initials_increase zero B.states))
        (keyed_increase S A B) cap (subst (λ (r : List Vertex). length r ≤ cap) (sym found_again) small))

    -- an initial state has its weight
    initial_of_lem : (C : Automaton W) (p : ℕ) → p ∈ initials_from zero C.states → (i : W) × (initial_of C p ≡ some i)
    initial_of_lem C p m =
        let (j, s, i, e, q, r) = initials_members zero C.states p m in
        let jp : j ≡ p = omega arith in
        (i, rw (subst (λ (n : ℕ). get_elem? C.states n ≡ some s) jp q, initial_of) r)

    starts-to : (s : Key) (c : Vertex) → keyed_graph.Starts s c → (product_graph S A B).Starts s c
    starts-to s c (e, m) =
        let (p, q, i, j, z) = pairs_members (initials_from zero A.states) (initials_from zero B.states) c m in
        let (u, a) = initial_of_lem A p i in
        let (v, b) = initial_of_lem B q j in
        (p, q, u, v, a, b, z, ap pair_key (sym z) ∙ e)

    starts_from : (s : Key) (c : Vertex) → (product_graph S A B).Starts s c → keyed_graph.Starts s c
    starts_from s c (p, q, i, j, a, b, z, e) = (
      ap pair_key z ∙ e,
      subst (λ (d : Vertex). d ∈ initials) (sym z)
          (pairs_in_lem S (initials_from zero A.states) (initials_from zero B.states) p q (initial_listed S A p i a) (initial_listed S B q j b)),
    )

    steps_to : (c : Vertex) (s : Key) (d : Vertex) → keyed_graph.Steps c s d → (product_graph S A B).Steps c s d
    steps_to c s d (l, e, m) = (l.1, subst (λ (k : Key). Moves S A B c k (l.1, d)) e (keyed_moves S A B c (l, d) m))

    steps_from : (c : Vertex) (s : Key) (d : Vertex) → (product_graph S A B).Steps c s d → keyed_graph.Steps c s d
    steps_from c s d (l, h) = ((s, l), refl, (moves_keyed S A B) c s l d h)

    pub states_ordered : Ordered (product_graph S A B) (product_states S cap A B)
    states_ordered = ordered_iff keyed_graph (product_graph S A B) (product_states S cap A B)
        (λ s c m. starts-to s c) starts_from (λ b e c m n. steps_to b e c) (λ b e c m. steps_from b e c) keyed_ordered

    -- the edges with keys, and without
    abbrev keyed_edges : List (Edge (Key × Content W))
    keyed_edges = edges same_vertex (keyed_out S A B) (product_states S cap A B)

    abbrev forget_edge : Edge (Key × Content W) → Edge (Content W)
    forget_edge x = record { from = x.from; label = x.label.1; to = x.to }

    edges-out : (k : ℕ) (zs : List (Keyed S A B)) → map_maybe (edge_to same_vertex (product_states S cap A B) k) (map (forget S A B) zs)
        ≡ map forget_edge (map_maybe (edge_to same_vertex (product_states S cap A B) k) zs)
    edges-out k [] = refl
    edges-out k (z ∷ zs) = go (member same_vertex z.1 (product_states S cap A B)) (edges-out k zs)
      where
        r : List (Edge (Key × Content W))
        r = map_maybe (edge_to same_vertex (product_states S cap A B) k) zs

        x : Edge (Key × Content W)
        x = record { from = k; label = z.0; to = index_of same_vertex z.1 (product_states S cap A B) }

        go : (b : Bool) → map_maybe (edge_to same_vertex (product_states S cap A B) k) (map (forget S A B) zs) ≡ map forget_edge r
            → cons_maybe (guard b (some (forget_edge x))) (map_maybe (edge_to same_vertex (product_states S cap A B) k) (map (forget S A B) zs)) ≡ map forget_edge (cons_maybe (guard b (some x)) r)
        go true e = ap {B = List (Edge (Content W))} (λ t. forget_edge x ∷ t) e
        go false e = e

    edges-all : (vs : List (ℕ × Vertex)) → concat (map (λ v. map_maybe (edge_to same_vertex (product_states S cap A B) v.0) ((product_system S A B).out v.1)) vs)
        ≡ map forget_edge (concat (map (λ v. map_maybe (edge_to same_vertex (product_states S cap A B) v.0) (keyed_out S A B v.1)) vs))
    edges-all [] = refl
    edges-all (v ∷ vs) =
        (λ i. (ap (map_maybe (edge_to same_vertex (product_states S cap A B) v.0)) (sym (out-forget S A B v.1)) ∙ edges-out v.0 (keyed_out S A B v.1)) i ++ edges-all vs i)
        ∙ sym (ListFacts.map_append forget_edge (map_maybe (edge_to same_vertex (product_states S cap A B) v.0) (keyed_out S A B v.1))
        (concat (map (λ v. map_maybe (edge_to same_vertex (product_states S cap A B) v.0) (keyed_out S A B v.1)) vs)))

    edges-forget : edges same_vertex (product_system S A B).out (product_states S cap A B) ≡ map forget_edge keyed_edges
    unfolding edges
    edges-forget = edges-all (numbered zero (product_states S cap A B))

    abbrev P : Automaton W
    P = numbered_automaton same_vertex (product_system S A B) (product_states S cap A B) (A.tapes + B.tapes)

    abbrev arc_key : ℕ → Key
    arc_key m = get_or (map (λ (x : Edge (Key × Content W)). x.label.0) keyed_edges) m []

    abbrev state_key : ℕ → Key
    state_key k = get_or (map pair_key (product_states S cap A B)) k []

    -- each arc is an edge with its key, and the other way round
    arc_edge : (m : ℕ) (a : Arc W) → get_elem? P.arcs m ≡ some a
        → (x : Edge (Key × Content W)) × (get_elem? keyed_edges m ≡ some x) × (step_arc (forget_edge x) ≡ a) × (arc_key m ≡ x.label.0)
    arc_edge m a e =
        let (y, p, q) = place_map⁻¹ step_arc (edges same_vertex (product_system S A B).out (product_states S cap A B)) m e in
        let (x, r, s) = place_map⁻¹ forget_edge keyed_edges m (ap (λ (es : List (Edge (Content W))). get_elem? es m) (sym edges-forget) ∙ p) in
        (x, r, ap step_arc s ∙ q, key_at m x r)
      where
        key_at : (m : ℕ) (x : Edge (Key × Content W)) → get_elem? keyed_edges m ≡ some x → arc_key m ≡ x.label.0
        key_at m x r = ListFacts.place_default (map (λ (x : Edge (Key × Content W)). x.label.0) keyed_edges) m [] (place_map (λ (x : Edge (Key × Content W)). x.label.0) keyed_edges m r)

    edge_arc : (m : ℕ) (x : Edge (Key × Content W)) → get_elem? keyed_edges m ≡ some x → (get_elem? P.arcs m ≡ some (step_arc (forget_edge x))) × (arc_key m ≡ x.label.0)
    edge_arc m x r = (
      place_map step_arc (edges same_vertex (product_system S A B).out (product_states S cap A B)) m
          (ap (λ (es : List (Edge (Content W))). get_elem? es m) edges-forget ∙ place_map forget_edge keyed_edges m r),
      ListFacts.place_default (map (λ (x : Edge (Key × Content W)). x.label.0) keyed_edges) m [] (place_map (λ (x : Edge (Key × Content W)). x.label.0) keyed_edges m r),
    )

    arcs_move : (m : ℕ) (a : Arc W) → get_elem? P.arcs m ≡ some a
        → (c : Vertex) × (d : Vertex) × (get_elem? (product_states S cap A B) a.source ≡ some c) × (get_elem? (product_states S cap A B) a.target ≡ some d)
        × Moves S A B c (arc_key m) (content a, d)
    arcs_move m a e =
        let (x, r, q, k) = arc_edge m a e in
        let (c, d, f, h, t) = edges_members same_vertex vertices_decided (keyed_out S A B) (product_states S cap A B) (ListFacts.placed keyed_edges m r) in
        subst (λ (b : Arc W). (c : Vertex) × (d : Vertex) × (get_elem? (product_states S cap A B) b.source ≡ some c) × (get_elem? (product_states S cap A B) b.target ≡ some d)
        × Moves S A B c (arc_key m) (content b, d)) q
        (c, d, f, t, subst (λ (s : Key). Moves S A B c s (x.label.1, d)) (sym k) (keyed_moves S A B c (x.label, d) h))

    moves_arc : (k : ℕ) (c : Vertex) (s : Key) (l : Content W) (d : Vertex) → get_elem? (product_states S cap A B) k ≡ some c → Moves S A B c s (l, d)
        → (m : ℕ) × (a : Arc W) × (get_elem? P.arcs m ≡ some a) × (a.source ≡ k) × (get_elem? (product_states S cap A B) a.target ≡ some d) × (content a ≡ l) × (arc_key m ≡ s)
    moves_arc k c s l d e h =
        let (j, t) = ListFacts.place (product_states S cap A B) (states_ordered.complete (step k s) d (c, e, (l, h))) in
        let (m, r) = ListFacts.place keyed_edges (edges_keeps same_vertex vertices_decided (keyed_out S A B) (product_states S cap A B) states_ordered.distinct k (s, l) j c d e (moves_keyed S A B c s l d h) t) in
        let (u, v) = edge_arc m (record { from = k; label = (s, l); to = j }) r in
        (m, step_arc (record { from = k; label = l; to = j }), u, refl, t, refl, v)

    state_key_lem : (k : ℕ) (c : Vertex) → get_elem? (product_states S cap A B) k ≡ some c → state_key k ≡ pair_key c
    state_key_lem k c e = ListFacts.place_default (map pair_key (product_states S cap A B)) k [] (place_map pair_key (product_states S cap A B) k e)

    initial_at_lem : (k : ℕ) (c : Vertex) → get_elem? (product_states S cap A B) k ≡ some c → initial_of P k ≡ (product_system S A B).initial c
    initial_at_lem k c e = initial_numbered same_vertex vertices_decided (product_system S A B) (product_states S cap A B) (A.tapes + B.tapes) k c e

    starts-table : (s : Key) (k : ℕ) → (by_number (product_graph S A B) (product_states S cap A B)).Starts s k → (table_graph P state_key arc_key).Starts s k
    starts-table s k (c, e, (p, q, i, j, a, b, z, f)) =
        let w = initial_at_lem k c e ∙ ap (product_system S A B).initial z ∙ (λ t. added S (a t) (b t)) in
        (_, w, state_key_lem k c e ∙ ap pair_key z ∙ f)

    table-starts : (s : Key) (k : ℕ) → (table_graph P state_key arc_key).Starts s k → (by_number (product_graph S A B) (product_states S cap A B)).Starts s k
    table-starts s k (i, e, f) =
        let (st, p, q) = ListFacts.bind_some (get_elem? P.states k) (λ s. s.initial) e in
        let (c, r, _) = place_map⁻¹ (vertex_state same_vertex (product_system S A B) (product_states S cap A B)) (product_states S cap A B) k p in
        let (u, v, a, b, _) = added⁻¹ S (initial_at (system A) c.0) (initial_at (system B) c.1) i (sym (initial_at_lem k c r) ∙ e) in
        let (x, ex, ax, _) = initial_at⁻¹ S A c.0 u a in
        let (y, ey, ay, _) = initial_at⁻¹ S B c.1 v b in
        at c r x y u v ax ay ex ey
      where
        at : (c : Vertex) → get_elem? (product_states S cap A B) k ≡ some c → (x y : ℕ) (u v : W) → initial_of A x ≡ some u → initial_of B y ≡ some v
            → c.0 ≡ some x → c.1 ≡ some y → (by_number (product_graph S A B) (product_states S cap A B)).Starts s k
        at c r x y u v ax ay ex ey =
            let z : c ≡ (some x, some y) = (λ t. (ex t, ey t)) in
            (c, r, (x, y, u, v, ax, ay, z, ap pair_key (sym z) ∙ sym (state_key_lem k c r) ∙ f))

    steps_table : (j : ℕ) (s : Key) (k : ℕ) → (by_number (product_graph S A B) (product_states S cap A B)).Steps j s k → (table_graph P state_key arc_key).Steps j s k
    steps_table j s k (c, d, e, f, (l, h)) =
        let (m, a, u, v, w, _, x) = moves_arc j c s l d e h in
        (m, a, u, v, PairwiseFacts.distinct-place (product_states S cap A B) states_ordered.distinct a.target k w f, x)

    table_steps : (j : ℕ) (s : Key) (k : ℕ) → (table_graph P state_key arc_key).Steps j s k → (by_number (product_graph S A B) (product_states S cap A B)).Steps j s k
    table_steps j s k (m, a, e, f, t, key) =
        let (c, d, u, v, h) = arcs_move m a e in (
          c,
          d,
          subst (λ (n : ℕ). get_elem? (product_states S cap A B) n ≡ some c) f u,
          subst (λ (n : ℕ). get_elem? (product_states S cap A B) n ≡ some d) t v,
          (content a, subst (λ (x : Key). Moves S A B c x (content a, d)) key h),
        )

    table_ordered : OrderedTable P state_key arc_key
    table_ordered = record {
      states = subst (λ (n : ℕ). Ordered (table_graph P state_key arc_key) (range zero n)) (sym (length-map (product_states S cap A B) (vertex_state same_vertex (product_system S A B) (product_states S cap A B))))
          (ordered_iff (by_number (product_graph S A B) (product_states S cap A B)) (table_graph P state_key arc_key) (range zero (length (product_states S cap A B)))
          (λ s k m. starts-table s k) table-starts (λ j s k m n. steps_table j s k) (λ j s k m. table_steps j s k)
          (numbers_ordered (product_graph S A B) (product_states S cap A B) states_ordered));
      arcs = λ m n a b p q h.
          let (x, r, ax, kx) = arc_edge m a p in
          let (y, s, by, ky) = arc_edge n b q in
          let t = PairwiseFacts.pairwise_places _ keyed_edges (edges_increase same_vertex (keyed_out S A B) (product_states S cap A B) (λ l. l.0) (keyed_increase S A B)) m n r s h in
          subst (λ (z : Arrival). z ⊏ step b.source (arc_key n)) (λ i. step (ax i).source (sym kx i))
          (subst (λ (z : Arrival). step x.from x.label.0 ⊏ z) (λ i. step (by i).source (sym ky i)) t);
    }

    pub numbered_order : ProductOrder S A B P
    numbered_order = record {
      tapes = refl;
      vertices = product_states S cap A B;
      vertices_ordered = states_ordered;
      states = refl;
      arc_key = arc_key;
      arcs_move = arcs_move;
      moves_arc = moves_arc;
      result_ordered = table_ordered;
    }

-- A product is in the order of request 2.2.
pub product_order : (S : OrderedSum) (fits : S.W → Bool) (space : Space) (A B P : Automaton S.W) → cross_product S fits space A B ≡ ok P → ProductOrder S A B P
product_order S fits space A B P e =
    let (cap, small, _, q) = gave_product S fits space A B P e in
    subst (ProductOrder S A B) q (numbered_order S A B cap small)
