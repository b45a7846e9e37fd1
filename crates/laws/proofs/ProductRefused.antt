-- Refusals of the product: 8, 9 and 11 exactly in their cases, in terms of what can be reached.
use mathlib.Core.Path.{◌≡◌, refl, sym, ◌∙◌, ap, subst}
use mathlib.Core.Logic.{◌↔◌, ◌⊎◌, inl, inr, ⊎_elim}
use mathlib.Core.Bool.{Bool, true, false}
use mathlib.Core.Option.{Option, none, some}
use mathlib.Core.List.{List, [], ◌∷◌}
use Prim.Native.Nat.{ℕ, zero, ◌+◌, ◌≤◌, ◌<◌}
use lib.Dec.{leb}
use lib.ListN.{length, length-map}
use Rattle.automata.specs.Lists.{here, there, ◌∈◌, and, all}
use Rattle.automata.specs.Answer.{refused}
use Rattle.automata.specs.Space.{Space, state_cap, arc_cap}
use Rattle.automata.specs.OrderedSum.{OrderedSum}
use Rattle.automata.specs.Automaton.{Automaton, Arc, State, Content}
use Rattle.automata.specs.Explore.{edges, onward}
use Rattle.automata.specs.System.{vertex_state, step_arc, numbered_automaton}
use Rattle.automata.specs.Product.{Vertex, same_vertex, fits_at, fitting, product_system, product_states, initials_from, all_pairs, cross_product, product}
use Rattle.laws.specs.Refused.{MoreThan, ProductState, ProductStep, WeightAt, ProductRefused, product_states_lem, product_arcs, product-weight, ProductCallRefused, product-width, product_work_lem, product_itself}
use Rattle.automata.proofs.ListFacts
use Rattle.automata.proofs.TestFacts
use Rattle.automata.proofs.ProductStates.{vertices_decided}
use Rattle.automata.proofs.Edges.{edges_members, edges_at}
use Rattle.laws.proofs.Lemmas.Counting.{more_found, all_found, found_is, is_found, more_edges, all_edges}
use borrow.Author.Tests.{leb-true, leb-false, le-leb, lt-leb}
use Rattle.automata.proofs.AnswerFacts.{refused≢ok, judge_refuses}
use Rattle.laws.proofs.Lemmas.Judging.{judge-cases, judge_on, over-or-within}

-- a test that some element fails
fails_all : {X : Type 0} (p : X → Bool) (xs : List X) → all p xs ≡ false → (x : X) × (x ∈ xs) × (p x ≡ false)
fails_all p [] e = TestFacts.false_not_true e refl
fails_all p (x ∷ xs) e = go (p x) refl (fails_all p xs) e
  where
    go : (b : Bool) → p x ≡ b → (all p xs ≡ false → (x : _) × (x ∈ xs) × (p x ≡ false)) → and b (all p xs) ≡ false → (y : _) × (y ∈ (x ∷ xs)) × (p y ≡ false)
    go true q rest e = let (y, m, z) = rest e in (y, there m, z)
    go false q rest e = (x, here refl, q)

all_fails : {X : Type 0} (p : X → Bool) (xs : List X) (x : X) → x ∈ xs → p x ≡ false → all p xs ≡ false
all_fails p xs x m e = TestFacts.T_false (all p xs) (λ t. TestFacts.false_not_true e (TestFacts.T_true (p x) (TestFacts.all_∈ p xs x t m)))

and_fails : (a b : Bool) → and a b ≡ false → (a ≡ false) ⊎ (b ≡ false)
and_fails true b e = inr e
and_fails false b e = inl refl

fails_first : (a b : Bool) → a ≡ false → and a b ≡ false
fails_first a b e = ap (λ a. and a b) e

fails_second : (a b : Bool) → b ≡ false → and a b ≡ false
fails_second true b e = e
fails_second false b e = refl

-- an absent weight fits
unfit : {W : Type 0} (fits : W → Bool) (o : Option W) → fits_at fits o ≡ false → (w : W) × (o ≡ some w) × (fits w ≡ false)
unfit fits none e = TestFacts.false_not_true e refl
unfit fits (some w) e = (w, refl, e)

module _ (S : OrderedSum) (fits : S.W → Bool) (space : Space) (A B : Automaton S.W) where
  open S use {W}

  abbrev outs : Vertex → List (Content W × Vertex)
  outs = (product_system S A B).out

  abbrev begins : List Vertex
  begins = all_pairs (initials_from zero A.states) (initials_from zero B.states)

  abbrev vertices : List Vertex
  vertices = product_states S (state_cap space) A B

  abbrev P : Automaton W
  P = numbered_automaton same_vertex (product_system S A B) vertices (A.tapes + B.tapes)

  abbrev state_fits : State W → Bool
  state_fits s = and (fits_at fits s.initial) (fits_at fits s.final)

  arcs_are : length P.arcs ≡ length (edges same_vertex outs vertices)
  arcs_are = length-map (edges same_vertex outs vertices) step_arc

  -- a weight that does not fit stands at a state that can be reached
  heavy_at : fitting S fits P ≡ false → (c : Vertex) × (w : W) × ProductState S A B c × WeightAt S A B c w × (fits w ≡ false)
  heavy_at e = ⊎_elim
      (λ x.
      let (s, m, y) = fails_all state_fits P.states x in
      let (c, k, q) = ListFacts.map_members (vertex_state same_vertex (product_system S A B) vertices) vertices m in
      let r = is_found same_vertex vertices_decided outs begins (state_cap space) c k in
      ⊎_elim
      (λ z. let (w, i, f) = unfit fits s.initial z in (c, w, r, inl (sym (ap (λ (s : State W). s.initial) q) ∙ i), f))
      (λ z. let (w, i, f) = unfit fits s.final z in (c, w, r, inr (inl (sym (ap (λ (s : State W). s.final) q) ∙ i)), f))
      (and_fails (fits_at fits s.initial) (fits_at fits s.final) y))
      (λ x.
      let (a, m, y) = fails_all (λ (a : Arc W). fits a.weight) P.arcs x in
      let (g, k, q) = ListFacts.map_members step_arc (edges same_vertex outs vertices) m in
      let (c, d, pc, s, _) = edges_members same_vertex vertices_decided outs vertices k in (
        c,
        g.label.weight,
        is_found same_vertex vertices_decided outs begins (state_cap space) c (ListFacts.placed vertices g.from pc),
        inr (inr (g.label, d, s, refl)),
        ap (λ (a : Arc W). fits a.weight) (sym q) ∙ y,
      ))
      (and_fails (all state_fits P.states) (all (λ (a : Arc W). fits a.weight) P.arcs) e)

  at_heavy : length vertices ≤ state_cap space → (c : Vertex) (w : W) → ProductState S A B c → WeightAt S A B c w → fits w ≡ false → fitting S fits P ≡ false
  at_heavy h c w r (inl i) f = fails_first (all state_fits P.states) _
      (all_fails state_fits P.states _ (ListFacts.map_keeps (vertex_state same_vertex (product_system S A B) vertices) vertices (found_is same_vertex vertices_decided outs begins (state_cap space) h c r))
      (fails_first (fits_at fits ((product_system S A B).initial c)) _ (ap (fits_at fits) i ∙ f)))
  at_heavy h c w r (inr (inl i)) f = fails_first (all state_fits P.states) _
      (all_fails state_fits P.states _ (ListFacts.map_keeps (vertex_state same_vertex (product_system S A B) vertices) vertices (found_is same_vertex vertices_decided outs begins (state_cap space) h c r))
      (fails_second (fits_at fits ((product_system S A B).initial c)) _ (ap (fits_at fits) i ∙ f)))
  at_heavy h c w r (inr (inr (s, d, m, q))) f =
      let i = found_is same_vertex vertices_decided outs begins (state_cap space) h c r in
      let j = found_is same_vertex vertices_decided outs begins (state_cap space) h d (onward r (ListFacts.map_keeps (λ (z : Content W × Vertex). z.1) (outs c) m)) in
      let (k, pk) = ListFacts.place vertices i in
      fails_second (all state_fits P.states) _
      (all_fails (λ (a : Arc W). fits a.weight) P.arcs _
      (ListFacts.map_keeps step_arc (edges same_vertex outs vertices) (edges_at same_vertex vertices_decided outs vertices k s c d pk m j)) (ap fits q ∙ f))

  -- no more can be reached than the space holds, and no more arcs
  few_vertices : ¬ MoreThan (state_cap space) (ProductState S A B) → length vertices ≤ state_cap space
  few_vertices n = ⊎_elim (λ h. absurd (n (more_found same_vertex vertices_decided outs begins (state_cap space) h))) (λ h. h)
      (over-or-within (length vertices) (state_cap space))

  few_steps : length vertices ≤ state_cap space → ¬ MoreThan (arc_cap space) (ProductStep S A B) → length P.arcs ≤ arc_cap space
  few_steps h n = ⊎_elim
      (λ l. absurd (n (more_edges same_vertex vertices_decided outs begins (state_cap space) h (arc_cap space) (subst (λ k. arc_cap space < k) arcs_are l)))) (λ l. l)
      (over-or-within (length P.arcs) (arc_cap space))

  -- the product refuses exactly so
  pub product-refused : (n : ℕ) → (cross_product S fits space A B ≡ refused n) ↔ ProductRefused S fits space A B n
  unfolding cross_product
  product-refused n = (why, answer n)
    where
      why : cross_product S fits space A B ≡ refused n → ProductRefused S fits space A B n
      why e = ⊎_elim
          (λ (x, q). subst (ProductRefused S fits space A B) q
          (product_states_lem (more_found same_vertex vertices_decided outs begins (state_cap space) (leb-false (length vertices) (state_cap space) x))))
          (λ (t, e).
          let h = leb-true (length vertices) (state_cap space) t in
          let no_more = all_found same_vertex vertices_decided outs begins (state_cap space) h in
          ⊎_elim
          (λ (x, q). subst (ProductRefused S fits space A B) q (product_arcs no_more
          (more_edges same_vertex vertices_decided outs begins (state_cap space) h (arc_cap space)
          (subst (λ k. arc_cap space < k) arcs_are (leb-false (length P.arcs) (arc_cap space) x)))))
          (λ (u, e).
          let no-arcs = all_edges same_vertex vertices_decided outs begins (state_cap space) h (arc_cap space)
          (subst (λ k. k ≤ arc_cap space) arcs_are (leb-true (length P.arcs) (arc_cap space) u)) in
          ⊎_elim
          (λ (x, q). let (c, w, r, a, f) = heavy_at x in subst (ProductRefused S fits space A B) q (product-weight no_more no-arcs c w r a f))
          (λ (_, e). absurd (refused≢ok (sym e)))
          (judge-cases (fitting S fits P) _ _ n e))
          (judge-cases (leb (length P.arcs) (arc_cap space)) _ _ n e))
          (judge-cases (leb (length vertices) (state_cap space)) _ _ n e)

      answer : (k : ℕ) → ProductRefused S fits space A B k → cross_product S fits space A B ≡ refused k
      answer _ (product_states_lem m) = judge_refuses (leb (length vertices) (state_cap space)) _ _
          (lt-leb (length vertices) (state_cap space)
          (⊎_elim (λ h. h) (λ h. absurd (all_found same_vertex vertices_decided outs begins (state_cap space) h m)) (over-or-within (length vertices) (state_cap space))))
      answer _ (product_arcs k m) =
          let h = few_vertices k in
          judge_on (leb (length vertices) (state_cap space)) _ _ _ (le-leb (length vertices) (state_cap space) h)
          (judge_refuses (leb (length P.arcs) (arc_cap space)) _ _ (lt-leb (length P.arcs) (arc_cap space)
          (⊎_elim (λ l. l) (λ l. absurd (all_edges same_vertex vertices_decided outs begins (state_cap space) h (arc_cap space) (subst (λ k. k ≤ arc_cap space) arcs_are l) m))
          (over-or-within (length P.arcs) (arc_cap space)))))
      answer _ (product-weight k l c w r a f) =
          let h = few_vertices k in
          judge_on (leb (length vertices) (state_cap space)) _ _ _ (le-leb (length vertices) (state_cap space) h)
          (judge_on (leb (length P.arcs) (arc_cap space)) _ _ _ (le-leb (length P.arcs) (arc_cap space) (few_steps h l))
          (judge_refuses (fitting S fits P) _ _ (at_heavy h c w r a f)))

  -- and so does the call, after its tests
  pub product_call_refused : (enough : Bool) (n : ℕ) → (product S fits enough space A B ≡ refused n) ↔ ProductCallRefused S fits enough space A B n
  unfolding product
  product_call_refused enough n = (why, answer n)
    where
      why : product S fits enough space A B ≡ refused n → ProductCallRefused S fits enough space A B n
      why e = ⊎_elim (λ (x, q). subst (ProductCallRefused S fits enough space A B) q (product-width (leb-false (A.tapes + B.tapes) 8 x)))
          (λ (t, e). ⊎_elim (λ (x, q). subst (ProductCallRefused S fits enough space A B) q (product_work_lem (leb-true (A.tapes + B.tapes) 8 t) x))
          (λ (u, e). product_itself (leb-true (A.tapes + B.tapes) 8 t) u n ((product-refused n).0 e))
          (judge-cases enough _ _ n e))
          (judge-cases (leb (A.tapes + B.tapes) 8) _ _ n e)

      answer : (k : ℕ) → ProductCallRefused S fits enough space A B k → product S fits enough space A B ≡ refused k
      answer _ (product-width x) = judge_refuses (leb (A.tapes + B.tapes) 8) _ _ (lt-leb (A.tapes + B.tapes) 8 x)
      answer _ (product_work_lem t x) = judge_on (leb (A.tapes + B.tapes) 8) _ _ _ (le-leb (A.tapes + B.tapes) 8 t) (judge_refuses enough _ _ x)
      answer _ (product_itself t u k h) = judge_on (leb (A.tapes + B.tapes) 8) _ _ _ (le-leb (A.tapes + B.tapes) 8 t)
          (judge_on enough _ _ _ u ((product-refused k).1 h))
