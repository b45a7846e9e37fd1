-- Refusals of the auto-intersection: 8, 9 and 10 exactly in their cases, in terms of what can be reached; and of the
-- forecast.
use mathlib.Core.Path.{◌≡◌, sym, subst}
use mathlib.Core.Logic.{◌↔◌, ◌⊎◌, inl, inr, ⊎_elim}
use mathlib.Core.Bool.{Bool, true}
use mathlib.Core.List.{List}
use Prim.Native.Nat.{ℕ, ◌≤◌, ◌<◌}
use native.Mathlib.Omega.{arith}
use lib.ListN.{length}
use Rattle.automata.specs.Lists.{◌∈◌, any}
use Rattle.automata.specs.Answer.{ok, refused}
use Rattle.automata.specs.Space.{Space, state_cap, arc_cap}
use Rattle.automata.specs.Automaton.{Automaton, Arc, Formed}
use Rattle.automata.specs.TapePair.{Pair, TapePair, tapes_of, limits_fit}
use Rattle.automata.specs.Config.{Config, same_config, too_long}
use Rattle.automata.specs.ClosingDelay.{ViableByDelays}
use Rattle.automata.specs.Closing.{closing_tables, viable}
use Rattle.automata.specs.Explore.{Edge, edges}
use Rattle.automata.specs.Intersect.{starts, candidates, out, reached_configs, delayed, intersect}
use Rattle.automata.specs.IntersectCall.{named, intersect_on, intersect_call}
use Rattle.automata.specs.ForecastCall.{forecast_call}
use Rattle.laws.specs.Refused.{MoreThan, Reached, ReachedStep, BuildRefused, build_states, build_arcs, build-delay, BuildCallRefused, build-tape, build-pairs, build-limit, build_work_lem, build_itself, ForecastRefused, forecast-tape, forecast-pairs, forecast-space}
use Rattle.automata.proofs.ListFacts
use Rattle.automata.proofs.ViableFacts
use Rattle.automata.proofs.Configurations.{configs_decided}
use Rattle.automata.proofs.IntersectAnswers.{refused-cases, states_over_lem, arcs_over_lem, step-over}
use Rattle.laws.proofs.Lemmas.Tests.{asks_tapes, asks_pairs, asks_limited, asks_limits, limit-above, judge_asks, judge_stops, judge_passes}
use Rattle.laws.proofs.Lemmas.Counting.{more_found, all_found, found_is, is_found, more_edges, all_edges}
use Rattle.automata.proofs.AnswerFacts.{refused≢ok, judge_refuses, then_refuses}
use Rattle.laws.proofs.Lemmas.Judging.{judge-cases, judge_on, bind-cases, over-or-within}

-- the test of viability is the condition by closing delays: on every pair the delay and the least of a state's closing
-- delays are at most 0, the delay and the greatest at least 0, and a final state can be reached
pub viable_by_delays : {W : Type 0} (A : Automaton W) (ps : List TapePair) → Formed A → (c : Config) → (viable (closing_tables A ps) c ≡ true) ↔ ViableByDelays A ps c
viable_by_delays A ps formed c = ViableFacts.viable_by_delays A formed ps c

module _ {W : Type 0} (A : Automaton W) (ps : List TapePair) (space : Space) where
  abbrev test : Config → Bool
  test = viable (closing_tables A ps)

  abbrev reached_list : List Config
  reached_list = reached_configs A ps test (state_cap space)

  abbrev between : List (Edge (ℕ × Arc W))
  between = edges same_config (out A ps test) reached_list

  states_more : state_cap space < length reached_list → MoreThan (state_cap space) (Reached A ps)
  unfolding reached_configs
  states_more = more_found same_config configs_decided (out A ps test) (starts A ps test) (state_cap space)

  states_all : length reached_list ≤ state_cap space → ¬ MoreThan (state_cap space) (Reached A ps)
  unfolding reached_configs
  states_all = all_found same_config configs_decided (out A ps test) (starts A ps test) (state_cap space)

  arcs_more : length reached_list ≤ state_cap space → arc_cap space < length between → MoreThan (arc_cap space) (ReachedStep A ps)
  unfolding reached_configs
  arcs_more h = more_edges same_config configs_decided (out A ps test) (starts A ps test) (state_cap space) h (arc_cap space)

  arcs_all : length reached_list ≤ state_cap space → length between ≤ arc_cap space → ¬ MoreThan (arc_cap space) (ReachedStep A ps)
  unfolding reached_configs
  arcs_all h = all_edges same_config configs_decided (out A ps test) (starts A ps test) (state_cap space) h (arc_cap space)

  -- some reached configuration has a viable compatible step that is too long
  too_far : length reached_list ≤ state_cap space → delayed A ps test reached_list ≡ true
      → (c : Config) × (s : (ℕ × Arc W) × Config) × Reached A ps c × (s ∈ candidates A ps test c) × (too_long ps s.1.leftovers ≡ true)
  unfolding delayed reached_configs
  too_far h e =
      let (c, m, x) = ListFacts.any_sound (λ c. any (λ (s : (ℕ × Arc W) × Config). too_long ps s.1.leftovers) (candidates A ps test c)) reached_list e in
      let (s, k, y) = ListFacts.any_sound (λ (s : (ℕ × Arc W) × Config). too_long ps s.1.leftovers) (candidates A ps test c) x in
      (c, s, is_found same_config configs_decided (out A ps test) (starts A ps test) (state_cap space) c m, k, y)

  far_too : length reached_list ≤ state_cap space → (c : Config) (s : (ℕ × Arc W) × Config) → Reached A ps c → s ∈ candidates A ps test c
      → too_long ps s.1.leftovers ≡ true → delayed A ps test reached_list ≡ true
  unfolding delayed reached_configs
  far_too h c s r m e =
      ListFacts.any_complete (λ c. any (λ (s : (ℕ × Arc W) × Config). too_long ps s.1.leftovers) (candidates A ps test c)) reached_list
      (found_is same_config configs_decided (out A ps test) (starts A ps test) (state_cap space) h c r)
      (ListFacts.any_complete (λ (s : (ℕ × Arc W) × Config). too_long ps s.1.leftovers) (candidates A ps test c) m e)

  -- no more are reached than the space holds, and no more arcs
  few_states : ¬ MoreThan (state_cap space) (Reached A ps) → length reached_list ≤ state_cap space
  few_states n = ⊎_elim (λ h. absurd (n (states_more h))) (λ h. h) (over-or-within (length reached_list) (state_cap space))

  few_arcs : length reached_list ≤ state_cap space → ¬ MoreThan (arc_cap space) (ReachedStep A ps) → length between ≤ arc_cap space
  few_arcs h n = ⊎_elim (λ l. absurd (n (arcs_more h l))) (λ l. l) (over-or-within (length between) (arc_cap space))

  -- the auto-intersection refuses exactly so
  pub build-refused : (n : ℕ) → (intersect A ps space ≡ refused n) ↔ BuildRefused A ps space n
  unfolding intersect
  build-refused n = (λ e. why (refused-cases A ps test space n e), answer n)
    where
      why : ((n ≡ 8) × (state_cap space < length reached_list))
          ⊎ (((n ≡ 9) × (length reached_list ≤ state_cap space) × (arc_cap space < length between))
          ⊎ ((n ≡ 10) × (length reached_list ≤ state_cap space) × (length between ≤ arc_cap space) × (delayed A ps test reached_list ≡ true)))
          → BuildRefused A ps space n
      why (inl h) = subst (BuildRefused A ps space) (sym h.0) (build_states (states_more h.1))
      why (inr (inl h)) = subst (BuildRefused A ps space) (sym h.0) (build_arcs (states_all h.1) (arcs_more h.1 h.2))
      why (inr (inr h)) =
          let (c, s, r, m, x) = too_far h.1 h.3 in
          subst (BuildRefused A ps space) (sym h.0) (build-delay (states_all h.1) (arcs_all h.1 h.2) c s r m x)

      answer : (k : ℕ) → BuildRefused A ps space k → intersect A ps space ≡ refused k
      answer _ (build_states m) = states_over_lem A ps test space
          (⊎_elim (λ h. h) (λ h. absurd (states_all h m)) (over-or-within (length reached_list) (state_cap space)))
      answer _ (build_arcs k m) =
          let h = few_states k in
          arcs_over_lem A ps test space h (⊎_elim (λ l. l) (λ l. absurd (arcs_all h l m)) (over-or-within (length between) (arc_cap space)))
      answer _ (build-delay k l c s r m x) = let h = few_states k in step-over A ps test space h (few_arcs h l) (far_too h c s r m x)

-- the auto-intersection without its configurations refuses as it does
pub build-only : {W : Type 0} (space : Space) (ps : List TapePair) (A : Automaton W) (n : ℕ)
    → (intersect_on space ps A ≡ refused n) ↔ BuildRefused A ps space n
unfolding intersect_on
build-only space ps A n = (
  λ e. (build-refused A ps space n).0
      (⊎_elim (λ h. h) (λ (_, _, q). absurd (refused≢ok (sym q))) (bind-cases (intersect A ps space) (λ I. ok I.automaton) n e)),
  λ h. then_refuses (intersect A ps space) (λ I. ok I.automaton) n ((build-refused A ps space n).1 h),
)

-- and so does the call, after its tests
pub build_call_refused : {W : Type 0} (enough : Bool) (space : Space) (ps : List TapePair) (A : Automaton W) (n : ℕ)
    → (intersect_call enough space ps A ≡ refused n) ↔ BuildCallRefused enough space ps A n
unfolding intersect_call
build_call_refused enough space ps A n = (why, answer n)
  where
    why : intersect_call enough space ps A ≡ refused n → BuildCallRefused enough space ps A n
    why e = ⊎_elim (λ (x, q). subst (BuildCallRefused enough space ps A) q (build-tape x))
        (λ (t, e). ⊎_elim (λ (x, q). subst (BuildCallRefused enough space ps A) q (build-pairs t x))
        (λ (u, e). ⊎_elim (λ (x, q). let (p, m, h) = limit-above ps x in subst (BuildCallRefused enough space ps A) q (build-limit t u p m h))
        (λ (v, e). ⊎_elim (λ (x, q). subst (BuildCallRefused enough space ps A) q (build_work_lem t u ((asks_limits ps).0 v) x))
        (λ (w, e). build_itself t u ((asks_limits ps).0 v) w n ((build-only space ps A n).0 e))
        (judge-cases enough _ _ n e))
        (judge-cases (limits_fit ps) _ _ n e))
        (judge_asks _ (asks_limited ps) _ _ n e))
        (judge_asks _ (asks_tapes A.tapes (named (tapes_of ps))) _ _ n e)

    answer : (k : ℕ) → BuildCallRefused enough space ps A k → intersect_call enough space ps A ≡ refused k
    answer _ (build-tape x) = judge_stops _ (asks_tapes A.tapes (named (tapes_of ps))) _ _ x
    answer _ (build-pairs t x) = judge_passes _ (asks_tapes A.tapes (named (tapes_of ps))) _ _ _ t (judge_stops _ (asks_limited ps) _ _ x)
    answer _ (build-limit t u p m h) = judge_passes _ (asks_tapes A.tapes (named (tapes_of ps))) _ _ _ t
        (judge_passes _ (asks_limited ps) _ _ _ u (judge_stops _ (asks_limits ps) _ _ (λ low. let l = low p m in absurd (omega arith))))
    answer _ (build_work_lem t u v x) = judge_passes _ (asks_tapes A.tapes (named (tapes_of ps))) _ _ _ t
        (judge_passes _ (asks_limited ps) _ _ _ u (judge_passes _ (asks_limits ps) _ _ _ v (judge_refuses enough _ _ x)))
    answer _ (build_itself t u v w k h) = judge_passes _ (asks_tapes A.tapes (named (tapes_of ps))) _ _ _ t
        (judge_passes _ (asks_limited ps) _ _ _ u
        (judge_passes _ (asks_limits ps) _ _ _ v (judge_on enough _ _ _ w ((build-only space ps A k).1 h))))

-- the forecast refuses by its tests alone
pub forecast-refused : {W : Type 0} (enough : Bool) (ps : List Pair) (A : Automaton W) (n : ℕ) → (forecast_call enough ps A ≡ refused n) ↔ ForecastRefused enough ps A n
unfolding forecast_call
forecast-refused enough ps A n = (why, answer n)
  where
    why : forecast_call enough ps A ≡ refused n → ForecastRefused enough ps A n
    why e = ⊎_elim (λ (x, q). subst (ForecastRefused enough ps A) q (forecast-tape x))
        (λ (t, e). ⊎_elim (λ (x, q). subst (ForecastRefused enough ps A) q (forecast-pairs t x))
        (λ (u, e). ⊎_elim (λ (x, q). subst (ForecastRefused enough ps A) q (forecast-space t u x))
        (λ (_, e). absurd (refused≢ok (sym e)))
        (judge-cases enough _ _ n e))
        (judge_asks _ (asks_pairs ps) _ _ n e))
        (judge_asks _ (asks_tapes A.tapes (named ps)) _ _ n e)

    answer : (k : ℕ) → ForecastRefused enough ps A k → forecast_call enough ps A ≡ refused k
    answer _ (forecast-tape x) = judge_stops _ (asks_tapes A.tapes (named ps)) _ _ x
    answer _ (forecast-pairs t x) = judge_passes _ (asks_tapes A.tapes (named ps)) _ _ _ t (judge_stops _ (asks_pairs ps) _ _ x)
    answer _ (forecast-space t u x) = judge_passes _ (asks_tapes A.tapes (named ps)) _ _ _ t
        (judge_passes _ (asks_pairs ps) _ _ _ u (judge_refuses enough _ _ x))
