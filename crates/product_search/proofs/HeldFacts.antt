-- What entering a state and noting a move leave of the work space, and that the search stays held.
use Prim.Native.Nat.{ℕ, ◌+◌, ◌*◌, ◌≤◌, ◌<◌}
use mathlib.Core.Path.{◌≡◌, refl, sym, ap, ◌∙◌, subst}
use mathlib.Core.List.{List, [], ◌∷◌, ◌++◌}
use native.Mathlib.Omega.{arith}
use lib.ListN.{length}
use Rattle.automata.specs.Automaton.{Automaton, Content}
use Rattle.automata.specs.Explore.{Edge, insert}
use Rattle.automata.specs.Product as automata
use Rattle.automata.specs.Product.{same_vertex}
use Rattle.automata.proofs.AppendFacts
use Rattle.automata.proofs.AppendFacts.{Begins}
use Rattle.automata.proofs.SearchFacts.{insert-begins}
use Rattle.automata.proofs.ProductStates.{vertices_decided}
use Rattle.automata.specs.Layout.{step_size, vertex_size}
use Rattle.table.specs.Region.{part, splice}
use Rattle.search_rows.specs.declared.Reached.{Reached}
use Rattle.table.proofs.RegionFacts.{part-splice_before}
use Rattle.search_rows.specs.declared.Entered.{Entered}
use Rattle.search_rows.specs.declared.Entered.TheVariants as E
use Rattle.search_rows.specs.Kept.{stored_within}
use Rattle.search_rows.proofs.CodeFacts.{all_insert}
use Rattle.search_rows.proofs.KeptFacts.{kept_cases, Keeps, stand_none, stand_kept, stand_more, stand_beyond}
use Rattle.search_rows.proofs.SearchFacts.{count_more}
use Rattle.search_chains.specs.Chain.{Chained}
use Rattle.search_chains.specs.Inserted.{Inserted}
use Rattle.search_chains.proofs.FrontFacts.{fronts_same}
use Rattle.search_chains.proofs.FindFacts.{agrees_whole}
use Rattle.search_chains.proofs.EntryFacts.{chained_kept}
use Rattle.search_chains.proofs.Meaning.{Entering, inserted_at, inserted_new, not_inserted}
use Rattle.product_search.specs.declared.vertex.Vertex.{Vertex}
use Rattle.product_search.specs.declared.vertex.Move.{Move}
use Rattle.product_search.specs.declared.plan.Plan.{Plan}
use Rattle.product_search.specs.declared.head.Head.{Head}
use Rattle.product_search.specs.Vertices.{vertex_shape, vertex_of, vertex_bytes, row_of, bucket_by, ChainedVertices, EntersVertex, VertexBelow}
use Rattle.product_search.specs.Moves.{move_bytes, move_at, RecordOf, HoldsMoves}
use Rattle.product_search.specs.Searching.{counted, VertexSearch, Holds}
use Rattle.product_search.proofs.RecordFacts.{length_vertex, length_move, Fits, move_back, move_kept}
use Rattle.product_search.proofs.FormFacts.{rows_tell}

-- ---- moves that are held

-- the record of a move, read elsewhere and between more states
record_on : (A B : Automaton ℕ) (cs ds : List automata.Vertex) (x : Edge (Content ℕ)) (m n : Move) → Begins cs ds → n ≡ m → RecordOf A B cs x m → RecordOf A B ds x n
record_on A B cs ds x m n b e r = subst (RecordOf A B ds x) (sym e)
    (record { vertex = r.vertex; at_from = AppendFacts.begins-place b x.from r.at_from; from_is = r.from_is; to_is = r.to_is; carried = r.carried })

-- by the states cs, the record of a move stands at a place; it stays where its bytes are kept, between more states
abbrev MoveStands : Automaton ℕ → Automaton ℕ → List automata.Vertex → Edge (Content ℕ) → ℕ → List ℕ → Type 0
MoveStands A B cs x a w = RecordOf A B cs x (move_at a w)

move_stays : (A B : Automaton ℕ) (cs ds : List automata.Vertex) → Begins cs ds → Keeps (MoveStands A B cs) (MoveStands A B ds)
move_stays A B cs ds b x a w v k r = record_on A B cs ds x (move_at a w) (move_at a v) b (move_kept a w v k) r

-- moves that stand in bytes that were kept, between more states
pub moves_kept : (A B : Automaton ℕ) (cs ds : List automata.Vertex) (at room : ℕ) (es : List (Edge (Content ℕ))) (w v : List ℕ) → Begins cs ds
    → ((a n : ℕ) → at ≤ a → part a n v ≡ part a n w) → HoldsMoves A B cs at room es w → HoldsMoves A B ds at room es v
unfolding HoldsMoves
moves_kept A B cs ds at room es w v b k h = stand_kept (MoveStands A B cs) (MoveStands A B ds) (move_stays A B cs ds b) at room es w v k h

-- no moves
pub moves_none : (A B : Automaton ℕ) (cs : List automata.Vertex) (at room : ℕ) (w : List ℕ) → HoldsMoves A B cs at room [] w
unfolding HoldsMoves
moves_none A B cs at room w = stand_none (MoveStands A B cs) at room w

module _ (A B : Automaton ℕ) (cs : List automata.Vertex) (at room : ℕ) (es : List (Edge (Content ℕ))) (x : Edge (Content ℕ)) (m : Move) (w : List ℕ) where
  -- the record of one move more, written behind them
  pub moves_more : Fits m → length es < room → at + step_size * room ≤ length w → RecordOf A B cs x m → HoldsMoves A B cs at room es w
      → HoldsMoves A B cs at room (es ++ (x ∷ [])) (splice (at + step_size * length es) (move_bytes m) w)
  unfolding HoldsMoves
  moves_more f l h r k = stand_more (MoveStands A B cs) (move_stays A B cs cs (AppendFacts.begins_self cs)) at room es x (move_bytes m) w (omega (arith, length_move m)) l h
      (subst (RecordOf A B cs x) (sym (move_back (at + step_size * length es) m w f (omega arith))) r) k

  -- moves past the room are not looked at
  pub moves_beyond : room ≤ length es → HoldsMoves A B cs at room es w → HoldsMoves A B cs at room (es ++ (x ∷ [])) w
  unfolding HoldsMoves
  moves_beyond l k = stand_beyond (MoveStands A B cs) at room es (x ∷ []) w l k

-- ---- a state is entered

module _ (p : Plan) (h : Head) (d : Vertex) (v : List ℕ) (vf : vertex_size * p.states ≤ p.base) (mf : p.base + step_size * p.arcs ≤ length v) (A B : Automaton ℕ) (t : automata.Vertex)
    (few-first : length A.states ≤ 1024) (few-second : length B.states ≤ 1024) (d-is : d ≡ vertex_of t)
    (below : VertexBelow (length A.states) (length B.states) t) (s : VertexSearch) (o : Holds p A B h s v) where
  -- the list with the state
  abbrev more : List automata.Vertex
  more = insert same_vertex s.vertices t

  abbrev After : Entered → List ℕ → Type 0
  After r w = EntersVertex h.reached p.states d v r w

  bytes_are : vertex_bytes d ≡ row_of t
  bytes_are = ap vertex_bytes d-is

  -- it may be entered
  may_enter : Entering row_of same_vertex (bucket_by p.states) vertex_size 4 p.states vertex_shape h.reached (bucket_by p.states (vertex_bytes d)) s.vertices t (vertex_bytes d) v
  may_enter = record {
    sized = length_vertex d;
    held = o.vertices;
    tells = rows_tell (length A.states) (length B.states) few-first few-second t s.vertices below o.below;
    reflexive = vertices_decided.complete t;
    few = o.fits;
    count_is = o.reached;
    bytes_are = bytes_are;
    searchable = record {
      chained = subst (λ (n : ℕ). Chained (bucket_by p.states) vertex_size n p.states h.reached v) (sym (length_vertex d))
          (subst (λ (n : ℕ). ChainedVertices p.states n v) (sym o.reached) o.chained);
      hashed = refl;
      agreeing = λ k b f. agrees_whole vertex_size k vertex_shape (vertex_bytes d) v (omega arith) (length_vertex d) (omega (arith, b, o.reached, o.fits, vf, mf)) f;
    };
  }

  pub was_at : (n : Reached) (w : List ℕ) → After (E.At n) w → Inserted row_of same_vertex (bucket_by p.states) vertex_size 4 p.states s.vertices t v w n × (h.reached ≡ length more)
  was_at n w e = inserted_at may_enter n w e

  pub was_new : (n : Reached) (w : List ℕ) → After (E.New n) w → Inserted row_of same_vertex (bucket_by p.states) vertex_size 4 p.states s.vertices t v w n × (h.reached + 1 ≡ length more)
  was_new n w e = inserted_new may_enter n w e

  pub was_full : (w : List ℕ) → After E.Full w → p.states < length more
  was_full w e = not_inserted may_enter w e

  -- the search with the state is held
  pub inserted_held : (n : Reached) (w : List ℕ) (k : ℕ) → Inserted row_of same_vertex (bucket_by p.states) vertex_size 4 p.states s.vertices t v w n × (k ≡ length more)
      → Holds p A B (record { taken = h.taken; reached = k; arcs = h.arcs; full = h.full }) (record { vertices = more; edges = s.edges }) w
  inserted_held n w k i = record {
    vertices = i.0.held;
    chained = i.0.chained;
    moves = moves_kept A B s.vertices more p.base p.arcs s.edges v w (insert-begins same_vertex s.vertices t) (λ a m l. i.0.kept a m (omega (arith, vf, l))) o.moves;
    reached = i.1;
    fits = i.0.fits;
    arc_count = o.arc_count;
    below = all_insert same_vertex (VertexBelow (length A.states) (length B.states)) s.vertices t o.below below;
  }

-- ---- a move is noted

module _ (p : Plan) (A B : Automaton ℕ) (h : Head) (s : VertexSearch) (w : List ℕ) (vf : vertex_size * p.states ≤ p.base) (mf : p.base + step_size * p.arcs ≤ length w)
    (o : Holds p A B h s w) (x : Edge (Content ℕ)) (m : Move) (f : Fits m) (r : RecordOf A B s.vertices x m) where
  abbrev longer : VertexSearch
  longer = record { vertices = s.vertices; edges = s.edges ++ (x ∷ []) }

  -- the rows stand before it
  before : h.arcs < p.arcs → (a n : ℕ) → a + n ≤ p.states * vertex_size → part a n (splice (p.base + step_size * h.arcs) (move_bytes m) w) ≡ part a n w
  before l a n b = part-splice_before a n (p.base + step_size * h.arcs) (move_bytes m) w (omega (arith, vf, b)) (omega (arith, mf, l))

  -- the head counts it whether there is room or not
  pub move_held : (u : List ℕ) → u ≡ stored_within p.base p.arcs h.arcs (move_bytes m) w → Holds p A B (counted p h) longer u
  move_held u k = kept_cases p.base p.arcs h.arcs (move_bytes m) w u k (λ z. Holds p A B (counted p h) longer z)
      (λ l. record {
        vertices = fronts_same 0 vertex_size 4 (length s.vertices) w _ (λ k b. before l (0 + k * vertex_size) 4 (omega (arith, o.fits, b))) ∙ o.vertices;
        chained = chained_kept (bucket_by p.states) vertex_size 4 p.states (length s.vertices) w _ (omega arith) o.fits (before l) o.chained;
        moves = subst (λ (z : ℕ). HoldsMoves A B s.vertices p.base p.arcs (s.edges ++ (x ∷ [])) (splice (p.base + step_size * z) (move_bytes m) w)) (sym o.arc_count)
            (moves_more A B s.vertices p.base p.arcs s.edges x m w f (omega (arith, o.arc_count, l)) mf r o.moves);
        reached = o.reached;
        fits = o.fits;
        arc_count = count_more h.arcs s.edges x o.arc_count;
        below = o.below;
      })
      (λ l. record {
        vertices = o.vertices;
        chained = o.chained;
        moves = moves_beyond A B s.vertices p.base p.arcs s.edges x m w (omega (arith, o.arc_count, l)) o.moves;
        reached = o.reached;
        fits = o.fits;
        arc_count = count_more h.arcs s.edges x o.arc_count;
        below = o.below;
      })
