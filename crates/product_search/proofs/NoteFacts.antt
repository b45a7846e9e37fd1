-- Steps noted one after the other, and the bounds that are kept.
use Prim.Native.Nat.{ℕ, ◌≤◌}
use mathlib.Core.Path.{◌≡◌, refl, sym, ap, ◌∙◌, subst}
use mathlib.Core.Logic.{inl, inr}
use mathlib.Core.Bool.{true}
use mathlib.Core.Option.{some}
use mathlib.Core.List.{List, [], ◌++◌}
use native.Mathlib.Omega.{arith}
use lib.ListN.{length, length-append, get_elem?}
use Rattle.automata.specs.Automaton.{Automaton}
use Rattle.automata.specs.Search.{note_all}
use Rattle.automata.specs.Product as automata
use Rattle.automata.specs.Product.{same_vertex}
use Rattle.automata.proofs.TestFacts
use Rattle.automata.proofs.SearchFacts.{note_all_append, note_all-place, note_all-edges_length}
use Rattle.automata.proofs.ProductStates.{vertices_decided}
use Rattle.search_rows.proofs.SearchFacts.{noted_longer}
use Rattle.product_search.specs.declared.plan.Plan.{Plan}
use Rattle.product_search.specs.declared.head.Head.{Head}
use Rattle.product_search.specs.Searching.{VertexSearch, Step, Exceeds, Comes, Notes}

-- ---- the bounds

-- ---- the steps

-- a search with no fewer states and moves has more than there is room for as well
pub exceeds_on : (p : Plan) (r : Head) (s t : VertexSearch) → length s.vertices ≤ length t.vertices → length s.edges ≤ length t.edges → Exceeds p r s → Exceeds p r t
exceeds_on p r s t a b (inl x) = inl (omega (arith, a, x))
exceeds_on p r s t a b (inr x) = let y = x.1 in inr (x.0, omega (arith, b, y))

module _ (p : Plan) (A B : Automaton ℕ) (c : automata.Vertex) where
  -- no step
  pub notes_none : (h : Head) (v : List ℕ) → Notes p A B c [] h v h v
  unfolding note_all
  notes_none h v s m e = m

  -- some and then others
  pub notes_then : (xs ys : List Step) (h g r : Head) (v u w : List ℕ) → g.taken ≡ h.taken → Notes p A B c xs h v g u → Notes p A B c ys g u r w
      → Notes p A B c (xs ++ ys) h v r w
  notes_then xs ys h g r v u w t a b s m e =
      let k = h.taken in
      let s1 : VertexSearch = note_all same_vertex k s xs in
      let e1 : get_elem? s1.vertices k ≡ some c = note_all-place same_vertex vertices_decided k s xs k c e in
      let m1 : Comes p A B r (note_all same_vertex g.taken s1 ys) w = b s1 (a s m e) (ap (get_elem? s1.vertices) t ∙ e1) in
      let m2 = subst (λ (i : ℕ). Comes p A B r (note_all same_vertex i s1 ys) w) t m1 in
      subst (λ (z : VertexSearch). Comes p A B r z w) (sym (note_all_append same_vertex vertices_decided k s xs ys)) m2

  -- once the states are full they stay so
  pub notes_full : (xs ys : List Step) (h r : Head) (v w : List ℕ) → r.full ≡ true → Notes p A B c xs h v r w → Notes p A B c (xs ++ ys) h v r w
  notes_full xs ys h r v w f a s m e = record {
    held = λ n. TestFacts.false_not_true n f;
    over = λ n.
        let l = note_all-edges_length same_vertex vertices_decided h.taken s xs in
        let k = note_all-edges_length same_vertex vertices_decided h.taken s (xs ++ ys) in
        let g = length-append xs ys in
        exceeds_on p r (note_all same_vertex h.taken s xs) (note_all same_vertex h.taken s (xs ++ ys)) (noted_longer same_vertex vertices_decided h.taken s xs ys (xs ++ ys) refl)
        (omega (arith, l, k, g)) ((a s m e).over f);
  }

  -- nothing is looked at where they are full already
  pub notes_over : (xs : List Step) (h : Head) (v : List ℕ) → h.full ≡ true → Notes p A B c xs h v h v
  notes_over xs h v f = notes_full [] xs h h v v f (notes_none h v)

  -- the same steps
  pub notes_same : (xs ys : List Step) (h r : Head) (v w : List ℕ) → xs ≡ ys → Notes p A B c xs h v r w → Notes p A B c ys h v r w
  notes_same xs ys h r v w q a = subst (λ (zs : List Step). Notes p A B c zs h v r w) q a
