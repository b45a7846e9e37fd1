-- What each way out of a search answers.
use Prim.Native.Nat.{ℕ, ◌/◌, ◌≤◌, ◌<◌}
use mathlib.Core.Path.{◌≡◌, sym, ap, subst, ◌∙◌}
use mathlib.Core.Bool.{Bool, true, false}
use mathlib.Core.List.{List}
use native.Mathlib.Omega.{arith}
use lib.ListN.{length}
use Rattle.automata.specs.Refusal as refusal
use Rattle.automata.specs.Answer.{◌>>=◌, Answer, ok, refused}
use Rattle.automata.specs.Space.{Space, state_cap, arc_cap}
use Rattle.automata.specs.TapePair.{TapePair}
use Rattle.automata.specs.Config.{Config}
use Rattle.automata.specs.Memory.{Memory, table_of}
use Rattle.automata.specs.Intersect.{Intersection, reached_configs, delayed, assemble, intersect_by}
use Rattle.automata.specs.Calls.Outcome.{Made, space_of, put, made_of, slices_of}
use Rattle.automata.proofs.CallFacts.{put_refused}
use Rattle.automata.proofs.IntersectAnswers.{fits_built, states_over_lem, arcs_over_lem, step-over}
use Rattle.automata.proofs.IntersectSteps.{reached_configs-distinct}
use Rattle.automata.specs.Layout.{arc_size, state_size}
use Rattle.table.specs.Answers.{lent}
use Rattle.intersect_edges.specs.Edges.{HoldsEdges}
use Rattle.intersect_room.specs.declared.room.Room.{Room}
use Rattle.intersect_room.specs.Room.{Divides}
use Rattle.intersect_offers.specs.declared.plan.Plan.{Plan}
use Rattle.intersect_head.specs.declared.head.Head.{Head}
use Rattle.intersect_result.specs.Standing.{edges_of, Stands, Finishable, Finished}
use Rattle.intersect_result.specs.Searched.{found_in, FoundWithin, Searched, Answerable, table_by}

module _ (p : Plan) (hd : Head) (states inputs w : List ℕ) (old_states old_arcs : List ℕ) (x : Answerable p hd states inputs w (length old_states) (length old_arcs))
    (ps : List TapePair) (v : Config → Bool) (found : Searched (lent p.counts states inputs) ps v p.room hd w) where
  -- the table that was read, and the room of the search
  abbrev m : Memory
  m = lent p.counts states inputs

  abbrev room : Room
  room = p.room

  d : Divides (length old_states / state_size) (length old_arcs / arc_size) p.counts.states (length w) room
  d = x.divides

  -- the space lent
  abbrev space : Space
  space = space_of (slices_of old_states old_arcs)

  -- a refusal leaves the slices
  answer_refused : (n : ℕ) → intersect_by (table_of m) ps v space ≡ refused n
      → made_of (refused n) old_states old_arcs ≡ put (table_by m ps v space) (slices_of old_states old_arcs)
  answer_refused n e =
      sym (put_refused (slices_of old_states old_arcs) n)
      ∙ ap (λ (r : Answer (Intersection ℕ)). put (r >>= λ I. ok I.automaton) (slices_of old_states old_arcs)) (sym e)

  -- more configurations than there is room for
  pub answer_full : hd.full ≡ true → made_of (refused refusal.states_full) old_states old_arcs ≡ put (table_by m ps v space) (slices_of old_states old_arcs)
  answer_full e =
      answer_refused 8 (states_over_lem (table_of m) ps v space
      (subst (λ (k : ℕ). k < length (reached_configs (table_of m) ps v k)) d.state_cap_is (found.over e)))

  module _ (e : hd.full ≡ false) where
    seen : FoundWithin m ps v room hd w
    seen = found.within e

    -- all configurations are within the space
    few : length (reached_configs (table_of m) ps v (state_cap space)) ≤ state_cap space
    few = subst (λ (k : ℕ). length (reached_configs (table_of m) ps v k) ≤ k) d.state_cap_is seen.few

    number : hd.arcs ≡ length (edges_of m ps v (reached_configs (table_of m) ps v (state_cap space)))
    number = subst (λ (k : ℕ). hd.arcs ≡ length (edges_of m ps v (reached_configs (table_of m) ps v k))) d.state_cap_is seen.number

    -- more arcs than there is room for
    pub answer_arcs : room.arcs < hd.arcs → made_of (refused refusal.arcs_full) old_states old_arcs ≡ put (table_by m ps v space) (slices_of old_states old_arcs)
    answer_arcs h = answer_refused 9 (arcs_over_lem (table_of m) ps v space few (omega (arith, d.arc_cap_is, number, h)))

    module _ (h : hd.arcs ≤ room.arcs) where
      within : length (edges_of m ps v (reached_configs (table_of m) ps v (state_cap space))) ≤ arc_cap space
      within = omega (arith, d.arc_cap_is, number, h)

      late_is : hd.late ≡ delayed (table_of m) ps v (reached_configs (table_of m) ps v (state_cap space))
      late_is = subst (λ (k : ℕ). hd.late ≡ delayed (table_of m) ps v (reached_configs (table_of m) ps v k)) d.state_cap_is seen.delay

      -- a step that is too long
      pub answer_late : hd.late ≡ true → made_of (refused refusal.delay) old_states old_arcs ≡ put (table_by m ps v space) (slices_of old_states old_arcs)
      answer_late f = answer_refused 10 (step-over (table_of m) ps v space few within (sym late_is ∙ f))

      -- the configurations stand in work space
      stands : Stands m ps v (found_in m ps v room) room hd w
      unfolding HoldsEdges
      stands = record {
        distinct = reached_configs-distinct (table_of m) ps v room.states;
        many = seen.many;
        placed = seen.placed;
        number = seen.number;
        held = λ j x k at. seen.held j x (omega (arith, seen.number, h)) at;
      }

      -- and can be finished
      pub answer_ready : Finishable p hd states inputs w (length old_states) (length old_arcs)
      answer_ready = record {
        sound = x.sound;
        pairs = ps;
        test = v;
        configs = found_in m ps v room;
        stands = stands;
        few = omega (arith, seen.few, seen.many, d.state_cap_is);
        rows_fit = omega (arith, seen.few, seen.many, d.configs_fit, d.edges_fit, d.delays_fit);
        edges_fit = omega (arith, d.edges_fit, d.delays_fit);
        states_lent = omega (arith, seen.few, seen.many, d.state_cap_is);
        arcs_lent = omega (arith, d.arc_cap_is);
      }

      -- the result
      pub answer_finished : hd.late ≡ false → (r : Made) → Finished p hd states inputs w r (slices_of old_states old_arcs)
          → r ≡ put (table_by m ps v space) (slices_of old_states old_arcs)
      answer_finished f r z =
          z ps v (found_in m ps v room) stands
          ∙ ap (λ (k : ℕ). put (ok (assemble (table_of m) ps v (reached_configs (table_of m) ps v k)).automaton) (slices_of old_states old_arcs)) d.state_cap_is
          ∙ ap (λ (a : Answer (Intersection ℕ)). put (a >>= λ I. ok I.automaton) (slices_of old_states old_arcs))
          (sym (fits_built (table_of m) ps v space (record { states = few; arcs = within; undelayed = sym late_is ∙ f })))
