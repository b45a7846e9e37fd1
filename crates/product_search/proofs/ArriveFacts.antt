-- What a move to a state comes to, from what the calls answer and leave.
use Prim.Native.Nat.{ℕ, ◌+◌, ◌≤◌, ◌<◌}
use mathlib.Core.Path.{◌≡◌, refl, sym, ap, ◌∙◌, subst}
use mathlib.Core.Bool.{false}
use mathlib.Core.List.{List, [], ◌∷◌, ◌++◌}
use native.Mathlib.Omega.{arith}
use mathlib.Core.Logic.{inl, inr}
use borrow.Author.Tests.{ltb-true, lt-ltb, le-ltb}
use lib.ListN.{length}
use Rattle.automata.specs.Automaton.{Automaton, Content}
use Rattle.automata.specs.Explore.{Edge, insert, index_of}
use Rattle.automata.specs.Search.{note, note_all}
use Rattle.automata.specs.Product as automata
use Rattle.automata.specs.Product.{same_vertex}
use Rattle.automata.proofs.TestFacts
use Rattle.automata.proofs.AppendFacts
use Rattle.automata.proofs.SearchFacts.{insert-begins}
use Rattle.automata.specs.Layout.{vertex_size}
use Rattle.search_rows.specs.declared.Reached.{Reached}
use Rattle.search_rows.specs.declared.Entered.{Entered}
use Rattle.search_rows.specs.declared.Entered.TheVariants as E
use Rattle.search_chains.specs.Inserted.{Inserted}
use Rattle.search_rows.specs.Kept.{stored_within}
use Rattle.product_search.specs.declared.vertex.Vertex.{Vertex}
use Rattle.product_search.specs.declared.vertex.Move.{Move}
use Rattle.product_search.specs.declared.plan.Plan.{Plan}
use Rattle.product_search.specs.declared.head.Head.{Head}
use Rattle.product_search.specs.Vertices.{vertex_of, row_of, bucket_by, EntersVertex, VertexBelow}
use Rattle.product_search.specs.Moves.{move_bytes}
use Rattle.product_search.specs.Searching.{with_reached, given_up, counted, moved_to, VertexSearch, Holds, Ready, Arrives}
use Rattle.product_search.proofs.RecordFacts.{length_move}
use Rattle.search_rows.proofs.CodeFacts.{index_bound}
use Rattle.search_rows.proofs.KeptFacts.{kept_length}
use Rattle.search_rows.proofs.SearchFacts.{count_more}
use Rattle.product_search.proofs.HeldFacts.{was_at, was_new, was_full, inserted_held, move_held}

-- ---- the head after a move

-- there is room for the states
pub moved_on : (p : Plan) (h : Head) (k : ℕ) → k ≤ p.states → moved_to p h k ≡ counted p (with_reached k h)
moved_on p h k b = rw (le-ltb p.states k b)

-- there is none
pub moved_off : (p : Plan) (h : Head) (k : ℕ) → p.states < k → moved_to p h k ≡ given_up h
moved_off p h k b = rw (lt-ltb p.states k b)

-- a move came to a head that is the same
pub arrives_moved : (p : Plan) (h : Head) (d : Vertex) (i j : ℕ) (v : List ℕ) (g r : Head) (w : List ℕ) → r ≡ g → Arrives p h d i j v g w → Arrives p h d i j v r w
arrives_moved p h d i j v g r w e a = subst (λ (z : Head). Arrives p h d i j v z w) (sym e) a

-- ---- the move

-- the record of the move that is noted
abbrev pub noted : Head → ℕ → ℕ → Reached → Move
noted h i j n = record { from = record { 0 = h.taken }; first = i; second = j; to = n }

module _ (p : Plan) (h : Head) (d : Vertex) (i j : ℕ) (v : List ℕ) (q : Ready p h 1 (length v)) (opened : h.full ≡ false) (i-fits : i < 65536) (j-fits : j < 65536) where
  -- it was inserted as number n, whatever search was held, which then has k states
  abbrev Enters : ℕ → Reached → List ℕ → Type 0
  Enters k n w = (A B : Automaton ℕ) (t : automata.Vertex) → length A.states ≤ 1024 → length B.states ≤ 1024 → d ≡ vertex_of t
      → VertexBelow (length A.states) (length B.states) t → (s : VertexSearch) → Holds p A B h s v
      → Inserted row_of same_vertex (bucket_by p.states) vertex_size 4 p.states s.vertices t v w n × (k ≡ length (insert same_vertex s.vertices t))

  -- the head is that after the move, and the record of the move is kept
  arrives_noted : (k : ℕ) (n : Reached) (w : List ℕ) → h.reached ≤ k → k ≤ p.states → length w ≡ length v → Enters k n w → (g : Head) (u : List ℕ)
      → (g ≡ counted p (with_reached k h)) × (u ≡ stored_within p.base p.arcs h.arcs (move_bytes (noted h i j n)) w) → Arrives p h d i j v g u
  unfolding note note_all
  arrives_noted k n w l b lw enters g u e = record {
    grows = record {
      taken = ap (λ (z : Head). z.taken) e.0;
      grown = let z : g.reached ≡ k = ap (λ (z : Head). z.reached) e.0 in omega arith;
      fits = let z : g.reached ≡ k = ap (λ (z : Head). z.reached) e.0 in omega arith;
      few = let z : g.arcs ≡ h.arcs + 1 = ap (λ (z : Head). z.arcs) e.0 in omega arith;
      same_length = kept_length p.base p.arcs h.arcs (move_bytes (noted h i j n)) w u e.1 (omega (arith, length_move (noted h i j n))) (omega (arith, lw, q.moves_fit)) ∙ lw;
    };
    meaning = λ A B c t y la lb di bt ca s m at.
        let o = m.held opened in
        let ins = enters A B t la lb di bt s o in
        let more : List automata.Vertex = insert same_vertex s.vertices t in
        let to : ℕ = index_of same_vertex t more in
        let x : Edge (Content ℕ) = record { from = h.taken; label = y; to = to } in
        let o1 = inserted_held p h d v q.vertices_fit q.moves_fit A B t la lb di bt s o n w k ins in
        let bound : to ≤ length more = index_bound same_vertex t more in
        let mv : u ≡ stored_within p.base p.arcs h.arcs (move_bytes (noted h i j (record { 0 = to }))) w
        = e.1 ∙ ap (λ (z : ℕ). stored_within p.base p.arcs h.arcs (move_bytes (noted h i j (record { 0 = z }))) w) ins.0.number in
        let o2 = move_held p A B (with_reached k h) (record { vertices = more; edges = s.edges }) w q.vertices_fit (omega (arith, lw, q.moves_fit)) o1 x (noted h i j (record { 0 = to }))
        (record { from = omega (arith, q.taken_fits, q.fits, q.few_states); first = i-fits; second = j-fits; to = omega (arith, bound, ins.0.fits, q.few_states) })
        (record { vertex = c; at_from = AppendFacts.begins-place (insert-begins same_vertex s.vertices t) h.taken at; from_is = refl; to_is = refl; carried = ca }) u mv in
        record {
          held = λ f. subst (λ (z : Head). Holds p A B z (record { vertices = more; edges = s.edges ++ (x ∷ []) }) u) (sym e.0) o2;
          over = λ f.
              let l = ltb-true p.limit (h.arcs + 1) (sym (ap (λ (z : Head). z.full) e.0) ∙ f) in
              let a : g.arcs ≡ h.arcs + 1 = ap (λ (z : Head). z.arcs) e.0 in
              let b = count_more h.arcs s.edges x o.arc_count in
              inr (omega (arith, l, a), omega (arith, l, b));
        };
  }

  module _ (r : Entered) (w : List ℕ) (t : EntersVertex h.reached p.states d v r w) where
    -- it was there already
    pub arrives_at : (n : Reached) → r ≡ E.At n → (u : List ℕ) → u ≡ stored_within p.base p.arcs h.arcs (move_bytes (noted h i j n)) w
        → Arrives p h d i j v (moved_to p h h.reached) u
    arrives_at n z u e = arrives_noted h.reached n w (omega arith) q.fits t.same_length
        (λ A B c la lb di bt s o. was_at p h d v q.vertices_fit q.moves_fit A B c la lb di bt s o n w (subst (λ (y : Entered). EntersVertex h.reached p.states d v y w) z t))
        _ u (moved_on p h h.reached q.fits, e)

    -- it is new
    pub arrives_new : (n : Reached) → r ≡ E.New n → (u : List ℕ) → u ≡ stored_within p.base p.arcs h.arcs (move_bytes (noted h i j n)) w
        → Arrives p h d i j v (moved_to p h (h.reached + 1)) u
    arrives_new n z u e =
        let t2 = subst (λ (y : Entered). EntersVertex h.reached p.states d v y w) z t in
        let b = t2.fits in
        let l : h.reached + 1 ≤ p.states = omega (arith, b) in
        arrives_noted (h.reached + 1) n w (omega arith) l t.same_length
        (λ A B c la lb di bt s o. was_new p h d v q.vertices_fit q.moves_fit A B c la lb di bt s o n w t2)
        _ u (moved_on p h (h.reached + 1) l, e)

    -- there is no room for it, and the search is given up
    given_up_lem : r ≡ E.Full → Arrives p h d i j v (given_up h) w
    unfolding note note_all
    given_up_lem z = record {
      grows = record { taken = refl; grown = omega arith; fits = q.fits; few = omega arith; same_length = t.same_length };
      meaning = λ A B c x y la lb di bt ca s m at. record {
        held = λ f. TestFacts.false_not_true f refl;
        over = λ f. inl (was_full p h d v q.vertices_fit q.moves_fit A B x la lb di bt s (m.held opened) w (subst (λ (y : Entered). EntersVertex h.reached p.states d v y w) z t));
      };
    }

    pub arrives_full : r ≡ E.Full → Arrives p h d i j v (moved_to p h (p.states + 1)) w
    arrives_full z = arrives_moved p h d i j v (given_up h) (moved_to p h (p.states + 1)) w (moved_off p h (p.states + 1) (omega arith)) (given_up_lem z)
