-- One state of the product: all moves out of it.
use Prim.Native.Nat.{ℕ, ◌+◌, ◌*◌, ◌<◌}
use mathlib.Core.Path.{◌≡◌, refl, ◌∙◌}
use mathlib.Core.Logic.{inr}
use mathlib.Core.Bool.{true, false}
use mathlib.Core.Option.{some}
use mathlib.Core.List.{List, ◌++◌}
use native.Mathlib.Omega.{arith}
use lib.ListN.{length, get_elem?}
use Rattle.automata.specs.OrderedSum.{ℕ_sum}
use Rattle.automata.specs.Automaton.{Automaton}
use Rattle.automata.specs.System.{system, out_at, final_at}
use Rattle.automata.specs.Search.{note_all}
use Rattle.automata.specs.Product as automata
use Rattle.automata.specs.Product.{same_vertex, all_both, all_after_first, all_after_second}
use Rattle.automata.proofs.TestFacts
use Rattle.automata.proofs.SearchFacts.{note_all-edges_length}
use Rattle.automata.proofs.ProductStates.{vertices_decided}
use Rattle.automata.proofs.WellFormedFacts.{all-place}
use Rattle.automata.specs.Layout.{vertex_size}
use Rattle.product_search.specs.declared.vertex.Vertex.{Vertex}
use Rattle.product_search.specs.declared.plan.Plan.{Plan}
use Rattle.product_search.specs.declared.head.Head.{Head}
use Rattle.product_search.specs.Vertices.{vertex_at, vertex_of, VertexBelow}
use Rattle.product_search.specs.Reading.{chained_only}
use Rattle.product_search.specs.Searching.{progress, VertexSearch, Step, Comes, Ready, Grows, PassesBoth, EndsFirst, EndsSecond, Tables, Indexed, Reads, chained_out, CountsMoves, TakesUp}
use Rattle.search_rows.proofs.ProgressFacts.{grows_then}
use Rattle.product_search.proofs.NoteFacts.{notes_then}
use Rattle.product_search.proofs.FormFacts.{loaded}

module _ (p : Plan) (h : Head) (s1 a1 f1 n1 s2 a2 f2 n2 : List ℕ) (v : List ℕ) (q : Ready p h 67125248 (length v)) (opened : h.full ≡ false) (tables : Tables p s1 a1 s2 a2)
    (indexed : Indexed p a1 f1 n1 a2 f2 n2) where
  module _ (c : Vertex) (c-is : c ≡ vertex_at (vertex_size * h.taken) v) where
    -- the state that was read is the one that is taken up
    vertex_is : (A B : Automaton ℕ) (s : VertexSearch) (b : automata.Vertex) → Reads p s1 a1 s2 a2 A B → Comes p A B h s v → get_elem? s.vertices h.taken ≡ some b
        → (c ≡ vertex_of b) × VertexBelow (length A.states) (length B.states) b
    vertex_is A B s b k m e =
        let o = m.held opened in (
          c-is ∙ loaded (length A.states) (length B.states) s.vertices v h.taken b k.first_states.few k.second_states.few o.below o.vertices e,
          all-place (VertexBelow (length A.states) (length B.states)) s.vertices o.below h.taken b e,
        )

    -- there are more moves out of it than are looked for
    pub take_over : (count : ℕ) → CountsMoves p c s1 f1 n1 s2 f2 n2 count → p.limit < h.arcs + count
        → TakesUp p h s1 a1 n1 s2 a2 n2 v (record { taken = h.taken; reached = h.reached; arcs = h.arcs + count; full = true }) v
    take_over count z l = record {
      taken = λ n. TestFacts.false_not_true n refl;
      fits = q.fits;
      few = omega (arith, z.few);
      same_length = refl;
      meaning = λ A B s b k m e. record {
        held = λ n. TestFacts.false_not_true n refl;
        over = λ n.
            let o = m.held opened in
            let x = vertex_is A B s b k m e in
            let y = z.meaning a1 a2 A B b indexed k x.0 x.1 in
            let w = note_all-edges_length same_vertex vertices_decided h.taken s (chained_out n1 n2 A B b) in
            inr (l, omega (arith, l, o.arc_count, y, w));
      };
    }

  module _ (c : Vertex) (c-is : c ≡ vertex_at (vertex_size * h.taken) v) (h1 : Head) (w1 : List ℕ) (z1 : PassesBoth p h c a1 n1 a2 n2 v h1 w1) where
    module _ (h2 : Head) (w2 : List ℕ) (z2 : EndsFirst p h1 c s1 a2 n2 w1 h2 w2) where
      both_grow : Grows p 67117056 h v h2 w2
      both_grow = grows_then p.states 67108864 8192 67117056 (progress h) (progress h1) (progress h2) v w1 w2 z1.grows z2.grows (omega arith)

      module _ (h3 : Head) (w3 : List ℕ) (z3 : EndsSecond p h2 c a1 n1 s2 w2 h3 w3) where
        all_grow : Grows p 67125248 h v h3 w3
        all_grow = grows_then p.states 67117056 8192 67125248 (progress h) (progress h2) (progress h3) v w2 w3 both_grow z3.grows (omega arith)

        -- all moves were noted
        all_noted : (A B : Automaton ℕ) (s : VertexSearch) (b : automata.Vertex) → Reads p s1 a1 s2 a2 A B → Comes p A B h s v → get_elem? s.vertices h.taken ≡ some b
            → Comes p A B h3 (note_all same_vertex h.taken s (chained_out n1 n2 A B b)) w3
        all_noted A B s b k m e =
            let xs = out_at ℕ_sum (system (chained_only n1 A)) b.0 in
            let ys = out_at ℕ_sum (system (chained_only n2 B)) b.1 in
            let ps : List Step = all_both ℕ_sum xs ys in
            let fs : List Step = all_after_first ℕ_sum A.tapes (final_at ℕ_sum (system A) b.0) ys in
            let ss : List Step = all_after_second ℕ_sum B.tapes (final_at ℕ_sum (system B) b.1) xs in
            let x = vertex_is c c-is A B s b k m e in
            let is = x.0 in
            let below = x.1 in
            notes_then p A B b ps (fs ++ ss) h h1 h3 v w1 w3 z1.grows.taken (z1.meaning A B b k.first_arcs k.second_arcs is)
            (notes_then p A B b fs ss h1 h2 h3 w1 w2 w3 z2.grows.taken (z2.meaning A B b k.first_states k.second_arcs is below)
            (z3.meaning A B b k.first_arcs k.second_states is below)) s m e

        -- the states are full
        pub take_full : h3.full ≡ true → TakesUp p h s1 a1 n1 s2 a2 n2 v h3 w3
        take_full f = record {
          taken = λ n. TestFacts.false_not_true n f;
          fits = all_grow.fits;
          few = all_grow.few;
          same_length = all_grow.same_length;
          meaning = all_noted;
        }

        -- the state is done with
        pub take_end : h3.full ≡ false → TakesUp p h s1 a1 n1 s2 a2 n2 v (record { taken = h3.taken + 1; reached = h3.reached; arcs = h3.arcs; full = h3.full }) w3
        take_end f = record {
          taken = λ n. omega (arith, all_grow.taken);
          fits = all_grow.fits;
          few = all_grow.few;
          same_length = all_grow.same_length;
          meaning = λ A B s b k m e.
              let o = all_noted A B s b k m e in
              record {
                held = λ n.
                    let y = o.held f in
                    record { vertices = y.vertices; chained = y.chained; moves = y.moves; reached = y.reached; fits = y.fits; arc_count = y.arc_count; below = y.below };
                over = λ n. TestFacts.false_not_true f n;
              };
        }
