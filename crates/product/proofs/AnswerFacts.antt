-- The answer by a search: what each way out of it leaves.
use mathlib.Core.Path.{◌≡◌, refl, sym, ap, ap₂, subst, ◌∙◌}
use mathlib.Core.Bool.{Bool, true, false, not}
use mathlib.Core.Option.{some}
use mathlib.Core.List.{List, map}
use Prim.Native.Nat.{ℕ, ◌+◌, ◌*◌, ◌≤◌, ◌<◌}
use native.Mathlib.Omega.{arith}
use lib.ListN.{length, length-map, get_elem?}
use Rattle.automata.specs.Refusal as refusal
use Rattle.automata.specs.Lists.{and}
use Rattle.automata.specs.Answer.{Answer, ok, refused}
use Rattle.automata.specs.Space.{Space, arc_cap}
use Rattle.automata.specs.OrderedSum.{ℕ_sum}
use Rattle.automata.specs.Automaton.{Automaton, Content}
use Rattle.automata.specs.System.{vertex_state, step_arc}
use Rattle.automata.specs.Explore.{Edge}
use Rattle.automata.specs.Product as product
use Rattle.automata.specs.Product.{same_vertex, product_system, fitting, cross_product}
use Rattle.automata.specs.Table.{weight_fits}
use Rattle.automata.specs.Memory.{encode_states, encode_arcs}
use Rattle.automata.specs.Calls.Outcome.{Slices, space_of, overwrite, put, made_of, slices_of}
use Rattle.automata.specs.Calls.JoinSteps.{product_step}
use Rattle.automata.proofs.CallFacts.{put_refused, put-ok}
use Rattle.automata.proofs.ListFacts.{place_bound}
use Rattle.automata.proofs.SoundFacts.{sound_holds}
use Rattle.automata.specs.Layout.{arc_size, state_size, step_size, vertex_size}
use Rattle.table.specs.Answers.{lent}
use Rattle.product_search.specs.declared.plan.Plan.{Plan}
use Rattle.product_search.specs.declared.head.Head.{Head}
use Rattle.product_search.specs.Vertices.{vertex_of}
use Rattle.product_search.specs.Moves.{HoldsMoves, RecordOf, move_at}
use Rattle.product_search.specs.Plans.{first_in, second_in}
use Rattle.product_search.specs.Exploring.{reached_in, edges_in, Held}
use Rattle.product_records.specs.Sums.{vertices_at, moves_at}
use Rattle.product_records.specs.Results.{states_fit, state_records, Vertices, moves_fit, move_records, Moves}
use Rattle.product.specs.Answered.{Answerable}
use Rattle.product.proofs.CrossFacts.{numbered_by, states_over_lem, arcs_over_lem, weights_over, product-made}
use Rattle.product.proofs.MoveModel.{vertices_held, vertices_fit, states_judged_lem, states_encoded, moves_fit_lem, moves_judged, moves_encoded}

-- a negated test
not_true : (b : Bool) → not b ≡ true → b ≡ false
not_true true e = sym e
not_true false e = refl

not_false : (b : Bool) → not b ≡ false → b ≡ true
not_false true e = refl
not_false false e = sym e

module _ (p : Plan) (s1 a1 s2 a2 : List ℕ) (r : Head) (w old_states old_arcs : List ℕ) (t : Answerable p s1 a1 s2 a2 r w (length old_states) (length old_arcs)) where
  -- the two tables, the slices of the result and the space in them
  abbrev A : Automaton ℕ
  A = first_in p s1 a1

  abbrev B : Automaton ℕ
  B = second_in p s2 a2

  abbrev slices : Slices
  slices = slices_of old_states old_arcs

  abbrev space : Space
  space = space_of slices

  -- a refusal leaves the slices
  answer_refused : (n : ℕ) → cross_product ℕ_sum weight_fits space A B ≡ refused n → made_of (refused n) old_states old_arcs ≡ product_step A B slices
  unfolding product_step
  answer_refused n e = sym (put_refused slices n) ∙ ap (λ (x : Answer (Automaton ℕ)). put x slices) (sym e)

  -- more states than there is room for
  pub answer_full : r.full ≡ true → made_of (refused refusal.states_full) old_states old_arcs ≡ product_step A B slices
  answer_full e = answer_refused 8 (states_over_lem A B space p.states t.state_cap_is (t.over e))

  module _ (e : r.full ≡ false) where
    abbrev cs : List product.Vertex
    cs = reached_in p s1 a1 s2 a2

    abbrev es : List (Edge (Content ℕ))
    es = edges_in p s1 a1 s2 a2

    -- more arcs than there is room for
    pub answer_arcs : p.arcs < r.arcs → made_of (refused refusal.arcs_full) old_states old_arcs ≡ product_step A B slices
    answer_arcs h =
        let m = t.more e h in
        let l = m.1 in
        answer_refused 9 (arcs_over_lem A B space p.states t.state_cap_is m.0 (omega (arith, l, t.arc_cap_is)))

    module _ (h : r.arcs ≤ p.arcs) where
      -- what stands in work space
      seen : Held p s1 a1 s2 a2 r w
      seen = t.held e h

      within : length es ≤ arc_cap space
      within = omega (arith, h, seen.arcs_is, t.arc_cap_is)

      few : A.tapes + B.tapes ≤ 8
      few = omega (arith, t.tapes_fit, (sound_holds (lent p.first s1 a1) t.explorable.first_sound).tapes, (sound_holds (lent p.second s2 a2) t.explorable.second_sound).tapes)

      long : vertex_size * length cs ≤ length w
      long = omega (arith, seen.few, t.explorable.vertices_fit, t.explorable.moves_fit)

      -- the rows are the states of the product
      rows_are : vertices_at 0 r.reached w ≡ map vertex_of cs
      rows_are =
          ap (λ (k : ℕ). vertices_at 0 k w) seen.reached_is
          ∙ vertices_held (lent p.first s1 a1) (lent p.second s2 a2) t.explorable.first_sound t.explorable.second_sound w 0 cs seen.below seen.vertices

      -- the moves stand behind them
      standing : (j : ℕ) (x : Edge (Content ℕ)) → get_elem? es j ≡ some x → RecordOf A B cs x (move_at (p.base + step_size * j) w)
      unfolding HoldsMoves
      standing j x at = let l = place_bound es j at in seen.moves j x (omega (arith, l, seen.arcs_is, h)) at

      -- what judging them asks for
      pub rows_fit : vertex_size * r.reached ≤ length w
      rows_fit = omega (arith, long, seen.reached_is)

      pub rows-within : Vertices s1 s2 (vertices_at 0 r.reached w)
      rows-within =
          rw rows_are (vertices_fit (lent p.first s1 a1) (lent p.second s2 a2) t.explorable.first_sound t.explorable.second_sound cs seen.below)

      pub moves_long : p.base + step_size * r.arcs ≤ length w
      moves_long = omega (arith, h, t.explorable.moves_fit)

      pub moves_within : Moves s1 a1 s2 a2 w (moves_at p.base r.arcs w)
      moves_within =
          subst (λ (k : ℕ). Moves s1 a1 s2 a2 w (moves_at p.base k w)) (sym seen.arcs_is)
          (moves_fit_lem (lent p.first s1 a1) (lent p.second s2 a2) t.explorable.first_sound t.explorable.second_sound few w cs seen.below long seen.vertices p.base es standing)

      -- the judgement is that of the product's weights
      judged : (b : Bool) → b ≡ and (states_fit s1 s2 (vertices_at 0 r.reached w)) (moves_fit s1 a1 s2 a2 w (moves_at p.base r.arcs w))
          → b ≡ fitting ℕ_sum weight_fits (numbered_by A B p.states)
      judged b f =
          f ∙ ap₂ and
          (ap (states_fit s1 s2) rows_are
          ∙ states_judged_lem (lent p.first s1 a1) (lent p.second s2 a2) t.explorable.first_sound t.explorable.second_sound cs cs seen.below)
          (ap (λ (k : ℕ). moves_fit s1 a1 s2 a2 w (moves_at p.base k w)) seen.arcs_is
          ∙ moves_judged (lent p.first s1 a1) (lent p.second s2 a2) t.explorable.first_sound t.explorable.second_sound few w cs seen.below long seen.vertices p.base es standing)

      module _ (b : Bool) (f : b ≡ and (states_fit s1 s2 (vertices_at 0 r.reached w)) (moves_fit s1 a1 s2 a2 w (moves_at p.base r.arcs w))) where
        -- a summed weight out of range
        pub answer_weights : not b ≡ true → made_of (refused refusal.weight) old_states old_arcs ≡ product_step A B slices
        answer_weights g =
            answer_refused 11 (weights_over A B space p.states t.state_cap_is seen.few within (sym (judged b f) ∙ not_true b g))

        -- the product written
        pub answer_made : not b ≡ false → (n k : ℕ) (states arcs : List ℕ) → n ≡ p.first.tapes → k ≡ p.second.tapes
            → states ≡ overwrite (state_records s1 s2 (vertices_at 0 r.reached w)) old_states
            → arcs ≡ overwrite (move_records s1 a1 s2 a2 w n k (moves_at p.base r.arcs w)) old_arcs
            → made_of (ok (record { tapes = n + k; states = r.reached; arcs = r.arcs })) states arcs ≡ product_step A B slices
        unfolding product_step
        answer_made g n k states arcs en ek x y =
            let P = numbered_by A B p.states in
            let made = product-made A B space p.states t.state_cap_is seen.few within (sym (judged b f) ∙ not_false b g) in
            let tapes : n + k ≡ A.tapes + B.tapes = omega (arith, en, ek, (sound_holds (lent p.first s1 a1) t.explorable.first_sound).tapes, (sound_holds (lent p.second s2 a2) t.explorable.second_sound).tapes) in
            let many : r.reached ≡ length P.states = seen.reached_is ∙ sym (length-map cs (vertex_state same_vertex (product_system ℕ_sum A B) cs)) in
            let number : r.arcs ≡ length P.arcs = seen.arcs_is ∙ sym (length-map es step_arc) in
            let u : states ≡ overwrite (encode_states P) old_states =
            x ∙ ap (λ (z : List ℕ). overwrite z old_states) (ap (state_records s1 s2) rows_are
            ∙ states_encoded (lent p.first s1 a1) (lent p.second s2 a2) t.explorable.first_sound t.explorable.second_sound cs cs seen.below) in
            let v : arcs ≡ overwrite (encode_arcs P) old_arcs =
            y ∙ ap (λ (z : List ℕ). overwrite z old_arcs)
            ((λ i. move_records s1 a1 s2 a2 w (en i) (ek i) (moves_at p.base (seen.arcs_is i) w))
            ∙ moves_encoded (lent p.first s1 a1) (lent p.second s2 a2) t.explorable.first_sound t.explorable.second_sound few w cs seen.below long seen.vertices
            (length P.states) p.base es standing) in
            (λ i. made_of (ok (record { tapes = tapes i; states = many i; arcs = number i })) (u i) (v i))
            ∙ sym (put-ok slices P) ∙ ap (λ (z : Answer (Automaton ℕ)). put z slices) (sym made)

      -- there is room for the records
      pub states_room : state_size * r.reached ≤ length old_states
      states_room = omega (arith, seen.reached_is, seen.few, t.state_cap_is)

      pub arcs_room : arc_size * r.arcs ≤ length old_arcs
      arcs_room = omega (arith, h, t.arc_cap_is)
