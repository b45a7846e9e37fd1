-- The tests of a product in their order: the first that fails tells its refusal.
use mathlib.Core.Path.{◌≡◌, sym, ap, subst, ◌∙◌}
use mathlib.Core.Bool.{true, false}
use mathlib.Core.List.{List}
use Prim.Native.Nat.{ℕ, ◌+◌, ◌≤◌, ◌<◌}
use native.Mathlib.Omega.{arith}
use borrow.Author.Tests.{le-leb, lt-leb}
use lib.ListN.{length, length-map}
use Rattle.automata.specs.Refusal as refusal
use Rattle.automata.specs.Answer.{Answer, ok, refused}
use Rattle.automata.specs.Space.{Space, state_cap, arc_cap}
use Rattle.automata.specs.OrderedSum.{ℕ_sum}
use Rattle.automata.specs.Automaton.{Automaton, Content}
use Rattle.automata.specs.System.{numbered_automaton, step_arc}
use Rattle.automata.specs.Explore.{Edge, edges}
use Rattle.automata.specs.Product as product
use Rattle.automata.specs.Product.{same_vertex, product_system, product_states, fitting, cross_product}
use Rattle.automata.specs.Table.{weight_fits}

module _ (A B : Automaton ℕ) where
  -- the states of the product, or more than cap of them, and the moves between them
  abbrev pub states_by : ℕ → List product.Vertex
  states_by cap = product_states ℕ_sum cap A B

  abbrev pub edges_by : ℕ → List (Edge (Content ℕ))
  edges_by cap = edges same_vertex (product_system ℕ_sum A B).out (states_by cap)

  -- the product on them
  abbrev pub numbered_by : ℕ → Automaton ℕ
  numbered_by cap = numbered_automaton same_vertex (product_system ℕ_sum A B) (states_by cap) (A.tapes + B.tapes)

  length_arcs : (cap : ℕ) → length (numbered_by cap).arcs ≡ length (edges_by cap)
  length_arcs cap = length-map (edges_by cap) step_arc

  module _ (space : Space) where
    -- what is asked of the product in the space
    abbrev pub crossed : Answer (Automaton ℕ)
    crossed = cross_product ℕ_sum weight_fits space A B

    states_at : state_cap space < length (states_by (state_cap space)) → crossed ≡ refused refusal.states_full
    unfolding cross_product
    states_at h = rw (lt-leb (length (states_by (state_cap space))) (state_cap space) h)

    arcs_at_lem : length (states_by (state_cap space)) ≤ state_cap space → arc_cap space < length (edges_by (state_cap space)) → crossed ≡ refused refusal.arcs_full
    unfolding cross_product
    arcs_at_lem h k =
        let l = length_arcs (state_cap space) in
        rw (le-leb (length (states_by (state_cap space))) (state_cap space) h, lt-leb (length (numbered_by (state_cap space)).arcs) (arc_cap space) (omega (arith, l, k)))

    weights_at : length (states_by (state_cap space)) ≤ state_cap space → length (edges_by (state_cap space)) ≤ arc_cap space
        → fitting ℕ_sum weight_fits (numbered_by (state_cap space)) ≡ false → crossed ≡ refused refusal.weight
    unfolding cross_product
    weights_at h k e =
        let l = length_arcs (state_cap space) in
        rw (le-leb (length (states_by (state_cap space))) (state_cap space) h, le-leb (length (numbered_by (state_cap space)).arcs) (arc_cap space) (omega (arith, l, k)), e)

    made_at : length (states_by (state_cap space)) ≤ state_cap space → length (edges_by (state_cap space)) ≤ arc_cap space
        → fitting ℕ_sum weight_fits (numbered_by (state_cap space)) ≡ true → crossed ≡ ok (numbered_by (state_cap space))
    unfolding cross_product
    made_at h k e =
        let l = length_arcs (state_cap space) in
        rw (le-leb (length (states_by (state_cap space))) (state_cap space) h, le-leb (length (numbered_by (state_cap space)).arcs) (arc_cap space) (omega (arith, l, k)), e)

    -- the same where the greatest number of states is given
    module _ (cap : ℕ) (e : cap ≡ state_cap space) where
      pub states_over_lem : cap < length (states_by cap) → crossed ≡ refused refusal.states_full
      states_over_lem h = states_at (subst (λ (k : ℕ). k < length (states_by k)) e h)

      pub arcs_over_lem : length (states_by cap) ≤ cap → arc_cap space < length (edges_by cap) → crossed ≡ refused refusal.arcs_full
      arcs_over_lem h k = arcs_at_lem (subst (λ (k : ℕ). length (states_by k) ≤ k) e h) (subst (λ (k : ℕ). arc_cap space < length (edges_by k)) e k)

      pub weights_over : length (states_by cap) ≤ cap → length (edges_by cap) ≤ arc_cap space → fitting ℕ_sum weight_fits (numbered_by cap) ≡ false → crossed ≡ refused refusal.weight
      weights_over h k f =
          weights_at (subst (λ (k : ℕ). length (states_by k) ≤ k) e h) (subst (λ (k : ℕ). length (edges_by k) ≤ arc_cap space) e k)
          (subst (λ (k : ℕ). fitting ℕ_sum weight_fits (numbered_by k) ≡ false) e f)

      pub product-made : length (states_by cap) ≤ cap → length (edges_by cap) ≤ arc_cap space → fitting ℕ_sum weight_fits (numbered_by cap) ≡ true → crossed ≡ ok (numbered_by cap)
      product-made h k f =
          made_at (subst (λ (k : ℕ). length (states_by k) ≤ k) e h) (subst (λ (k : ℕ). length (edges_by k) ≤ arc_cap space) e k)
          (subst (λ (k : ℕ). fitting ℕ_sum weight_fits (numbered_by k) ≡ true) e f)
          ∙ ap (λ (k : ℕ). ok (numbered_by k)) (sym e)
