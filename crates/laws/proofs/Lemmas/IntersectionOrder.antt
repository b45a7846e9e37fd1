-- The auto-intersection keeps the order: its configurations are numbered in the order first reached, trimming closes
-- the gaps, and its arcs stand by source state, then by the input's arc.
use mathlib.Core.Path.{◌≡◌, refl, sym, ◌∙◌, ap, subst}
use mathlib.Core.Logic.{inl}
use mathlib.Core.Bool.{Bool, true, false}
use mathlib.Core.Option
use mathlib.Core.Option.{some, some-injective}
use mathlib.Core.List.{List, [], ◌∷◌, map}
use Prim.Native.Nat.{ℕ, zero, ◌<◌, ◌≤◌}
use native.Mathlib.Omega.{arith}
use lib.ListN.{length, length-map, get_elem?}
use Rattle.automata.specs.Lists.{◌∈◌, and, is_some, guard, numbered, Pairwise}
use Rattle.automata.specs.Answer.{ok}
use Rattle.automata.specs.Space.{Space, state_cap}
use Rattle.automata.specs.Automaton.{State, Arc, Automaton, Formed}
use Rattle.automata.specs.TapePair.{TapePair}
use Rattle.automata.specs.Config.{Config, same_config, start_at, follow, advance_all}
use Rattle.automata.specs.Viable.{Viable, DecidesViable}
use Rattle.automata.specs.Closing.{closing_tables}
use Rattle.automata.specs.Closing as Closing
use Rattle.automata.specs.Explore.{Edge, edges, edge_graph}
use Rattle.automata.specs.Trim.{trimmed, Coaccessible}
use Rattle.automata.specs.Trim as Trim
use Rattle.automata.specs.Marks.{coaccessible}
use Rattle.automata.specs.Projection.{range}
use Rattle.automata.specs.Intersect.{Intersection, accepting, state_of, arc_of, starts, candidates, out, reached_configs, delayed, assemble, intersect}
use Rattle.automata.proofs.ListFacts
use Rattle.automata.proofs.PairwiseFacts
use Rattle.automata.proofs.Membership.{place_map}
use Rattle.automata.proofs.Explored.{successors_label}
use Rattle.automata.proofs.Configurations.{configs_decided, out_lead, out_ordered, out_undelayed, candidates_keeps, starts_members, starts_keeps}
use Rattle.automata.proofs.DelayBounds.{starts-viable, candidates-viable}
use Rattle.automata.proofs.ViableFacts.{viable_decides}
use Rattle.automata.proofs.IntersectAnswers.{built_fits}
use Rattle.laws.specs.PathBijection.{Exact}
use Rattle.laws.proofs.Lemmas.ResultPaths.{kept, kept_edges, result, kept_live, initial_weight, start_weights, CopyOf, arc_edge}
use Rattle.laws.proofs.Lemmas.ResultCopies.{result_exact}
use Rattle.laws.specs.Order as Order
use Rattle.laws.specs.Order.{Live, Key, ◌≺◌, KeyedGraph, Arrival, start, step, ◌⊏◌, Reaches, Ordered, ClosesGaps, table_graph, OrderedTable, input_state, input_arc, config_graph, IntersectionOrder}
use Rattle.laws.proofs.Lemmas.Sorted.{pairwise_weaken}
use Rattle.laws.proofs.Lemmas.OrderFacts.{listed, reached_ordered, ordered_iff, arrival, arrived}
use Rattle.laws.proofs.Lemmas.KeptOrder.{within, kept_ordered, marks_close_gaps}
use Rattle.laws.proofs.Lemmas.NumberOrder.{by_number, numbers_ordered, edges_increase}

module _ {W : Type 0} (A : Automaton W) (ps : List TapePair) (viable : Config → Bool) where
  -- the keys: a starting configuration by its state's number, a step by its arc's
  abbrev start_key : Config → Key
  start_key c = c.state ∷ []

  abbrev arc_key : ℕ × Arc W → Key
  arc_key e = e.0 ∷ []

  -- what a starting configuration was made of
  start-made : (q : ℕ × State W) (c : Config) → guard (and (is_some q.1.initial) (viable (start_at ps q.0))) (some (start_at ps q.0)) ≡ some c
      → c ≡ start_at ps q.0
  start-made q c e =
      let (_, g) = ListFacts.guard_some (and (is_some q.1.initial) (viable (start_at ps q.0))) (some (start_at ps q.0)) e in
      sym (some-injective (start_at ps q.0) c g)

  -- they stand by state number
  starts_increase : Pairwise (λ c d. start_key c ≺ start_key d) (starts A ps viable)
  unfolding starts
  starts_increase = PairwiseFacts.pairwise_map_maybe (λ a b. a.0 < b.0) (λ c d. start_key c ≺ start_key d)
      (λ (q : ℕ × State W). guard (and (is_some q.1.initial) (viable (start_at ps q.0))) (some (start_at ps q.0)))
      (λ a b x y p q h.
      let u = ap (λ (c : Config). c.state) (start-made a x p) in
      let v = ap (λ (c : Config). c.state) (start-made b y q) in
      inl (omega arith))
      (numbered zero A.states) (PairwiseFacts.pairwise_numbered zero A.states)

  -- the steps out of a configuration stand by arc number
  steps_increase : (c : Config) → Pairwise (λ s t. arc_key s.0 ≺ arc_key t.0) (out A ps viable c)
  steps_increase c = pairwise_weaken (λ s t. s.0.0 < t.0.0) (λ s t. arc_key s.0 ≺ arc_key t.0) (λ s t h. inl h) (out A ps viable c) (out_ordered A ps viable c)

  -- a step is viable
  step-viable : (c : Config) (e : ℕ × Arc W) (d : Config) → ◌∈◌ {A = (ℕ × Arc W) × Config} (e, d) (out A ps viable c) → viable d ≡ true
  unfolding out
  step-viable c e d h = let (m, _) = ListFacts.filter_members _ (candidates A ps viable c) h in candidates-viable A ps viable c (e, d) m

  -- the graph of the search
  abbrev search_graph : KeyedGraph Config
  search_graph = listed start_key arc_key (starts A ps viable) (out A ps viable)

  module _ (decides : DecidesViable A ps viable) where
    -- its starts and steps are those of the configurations
    starts-to : (s : Key) (c : Config) → search_graph.Starts s c → (config_graph A ps).Starts s c
    starts-to s c (e, m) =
        let (q, i, p, z) = starts_members A ps viable c m in
        (q, i, p, z, decides.sound c (starts-viable A ps viable c m), (let u = ap (λ (d : Config). d.state) z in ap (λ (n : ℕ). n ∷ []) (sym u) ∙ e))

    starts_from : (s : Key) (c : Config) → (config_graph A ps).Starts s c → search_graph.Starts s c
    starts_from s c (q, i, p, z, v, e) =
        (ap start_key z ∙ e, subst (λ (d : Config). d ∈ starts A ps viable) (sym z) (starts_keeps A ps viable q i p (ap viable (sym z) ∙ decides.complete c v)))

    -- a step of the search is a step of the configurations
    step_parts : (c : Config) (e : ℕ × Arc W) (d : Config) → ◌∈◌ {A = (ℕ × Arc W) × Config} (e, d) (out A ps viable c)
        → (get_elem? A.arcs e.0 ≡ some e.1) × (e.1.source ≡ c.state) × (follow ps c e.1 ≡ some d)
    step_parts c e d m =
        let t = out_lead A ps viable c e d m in (
          t.numbered_arc,
          t.source_state,
          ap (Option.map (λ ls. record { state = e.1.target; leftovers = ls })) t.leaves ∙ (λ i. some (record { state = t.target_state i; leftovers = d.leftovers })),
        )

    steps_to : (c : Config) (s : Key) (d : Config) → search_graph.Steps c s d → (config_graph A ps).Steps c s d
    steps_to c s d (e, k, m) = let (p, f, t) = step_parts c e d m in (e.0, e.1, p, f, t, decides.sound d (step-viable c e d m), k)

    -- and the other way round, where no step is delayed
    step-out : (cs : List Config) → delayed A ps viable cs ≡ false → (c d : Config) (e : ℕ) (a : Arc W) → c ∈ cs → get_elem? A.arcs e ≡ some a
        → a.source ≡ c.state → follow ps c a ≡ some d → Viable A ps d → ◌∈◌ {A = (ℕ × Arc W) × Config} ((e, a), d) (out A ps viable c)
    step-out cs undelayed c d e a m p f t v =
        let (ls, g, z) = ListFacts.map_some (λ ls. record { state = a.target; leftovers = ls }) (advance_all ps c.leftovers a) t in
        subst (λ (b : Config). ◌∈◌ {A = (ℕ × Arc W) × Config} ((e, a), b) (out A ps viable c)) (sym z)
        (rw (out_undelayed A ps viable cs c undelayed m) (candidates_keeps A ps viable c e a ls p f g (ap viable (sym z) ∙ decides.complete d v)))

    steps_from : (cs : List Config) → delayed A ps viable cs ≡ false → (c : Config) (s : Key) (d : Config) → c ∈ cs
        → (config_graph A ps).Steps c s d → search_graph.Steps c s d
    steps_from cs undelayed c s d m (e, a, p, f, t, v, k) = ((e, a), k, step-out cs undelayed c d e a m p f t v)

    module _ (cap : ℕ) (small : length (reached_configs A ps viable cap) ≤ cap) (undelayed : delayed A ps viable (reached_configs A ps viable cap) ≡ false) where
      abbrev cs : List Config
      cs = reached_configs A ps viable cap

      -- the reached configurations stand in the order first reached
      searched_ordered : Ordered search_graph (reached_configs A ps viable cap)
      unfolding reached_configs
      searched_ordered = reached_ordered same_config configs_decided start_key arc_key (starts A ps viable) (out A ps viable) starts_increase steps_increase cap small

      pub found_ordered : Ordered (config_graph A ps) (reached_configs A ps viable cap)
      found_ordered = ordered_iff search_graph (config_graph A ps) cs
          (λ s c m. starts-to s c) starts_from (λ b e c m n. steps_to b e c) (λ b e c m. steps_from cs undelayed b e c m) searched_ordered

      -- a reached configuration is viable
      reached-viable : (c : Config) → c ∈ cs → Viable A ps c
      reached-viable c m =
          let (k, e) = ListFacts.place cs m in
          go (arrival (config_graph A ps) cs found_ordered k c e) (arrived (config_graph A ps) cs found_ordered k c e).reaches
        where
          go : (x : Arrival) → Reaches (config_graph A ps) cs x c → Viable A ps c
          go (start s) (q, i, p, z, v, e) = v
          go (step i e) (b, p, (n, a, q, f, t, v, k)) = v

      -- what leads to a kept configuration is kept
      kept_closed : (b : Config) (e : Key) (c : Config) → b ∈ cs → (config_graph A ps).Steps b e c → c ∈ kept A ps viable cap → b ∈ kept A ps viable cap
      kept_closed b e c m s h =
          let (l, _, i) = steps_from cs undelayed b e c m s in
          (kept_live A ps viable cap b).1 (Trim.goes m (ListFacts.map_keeps (λ (z : (ℕ × Arc W) × Config). z.1) (out A ps viable b) i) ((kept_live A ps viable cap c).0 h))

      result_kept_ordered : Ordered (within (config_graph A ps) (kept A ps viable cap)) (kept A ps viable cap)
      unfolding trimmed
      result_kept_ordered = kept_ordered (config_graph A ps) cs (coaccessible (edge_graph (edges same_config (out A ps viable) cs)) (map (accepting A) cs)) found_ordered kept_closed

      gaps : ClosesGaps cs (kept A ps viable cap)
      unfolding trimmed
      gaps = marks_close_gaps (coaccessible (edge_graph (edges same_config (out A ps viable) cs)) (map (accepting A) cs)) cs found_ordered.distinct

      abbrev I : Intersection W
      I = result A ps viable cap

      exact : Exact A ps viable cs I
      exact = result_exact A ps viable cap

      state_key_lem : (k : ℕ) (c : Config) → get_elem? (kept A ps viable cap) k ≡ some c → input_state I k ≡ start_key c
      unfolding assemble
      state_key_lem k c e = ap (λ (n : ℕ). n ∷ []) (ListFacts.place_default (map (λ (c : Config). c.state) (kept A ps viable cap)) k zero (place_map (λ (c : Config). c.state) (kept A ps viable cap) k e))

      starts-table : (s : Key) (k : ℕ) → (by_number (within (config_graph A ps) (kept A ps viable cap)) (kept A ps viable cap)).Starts s k
          → (table_graph I.automaton (input_state I) (input_arc I)).Starts s k
      starts-table s k (c, p, ((q, i, e, z, v, f), m)) =
          (i, (start_weights A ps viable cap k q (p ∙ ap some z)).0 ∙ e, state_key_lem k c p ∙ ap start_key z ∙ f)

      table-starts : (s : Key) (k : ℕ) → (table_graph I.automaton (input_state I) (input_arc I)).Starts s k
          → (by_number (within (config_graph A ps) (kept A ps viable cap)) (kept A ps viable cap)).Starts s k
      table-starts s k (i, e, f) =
          let (c, p, z, q) = initial_weight A ps viable cap k i e in
          let m = ListFacts.placed (kept A ps viable cap) k p in
          (c, p, ((c.state, i, q, z, reached-viable c (gaps.some_of c m), sym (state_key_lem k c p) ∙ f), m))

      steps_table : (j : ℕ) (s : Key) (k : ℕ) → (by_number (within (config_graph A ps) (kept A ps viable cap)) (kept A ps viable cap)).Steps j s k
          → (table_graph I.automaton (input_state I) (input_arc I)).Steps j s k
      unfolding assemble
      steps_table j s k (b, c, p, q, (r, m, n)) =
          let (e, f, i) = steps_from cs undelayed b s c (gaps.some_of b m) r in
          let (u, v, w) = exact.steps j k b c e p q i in
          (u, arc_of (record { from = j; label = e; to = k }), v, refl, refl, ap (λ (n : ℕ). n ∷ []) w ∙ f)

      table_steps : (j : ℕ) (s : Key) (k : ℕ) → (table_graph I.automaton (input_state I) (input_arc I)).Steps j s k
          → (by_number (within (config_graph A ps) (kept A ps viable cap)) (kept A ps viable cap)).Steps j s k
      unfolding assemble
      table_steps j s k (m, a, p, f, t, key) =
          let (c, d, e, u, v, i, o, _) = exact.arcs m a p in (
            c,
            d,
            subst (λ (n : ℕ). get_elem? (kept A ps viable cap) n ≡ some c) f u,
            subst (λ (n : ℕ). get_elem? (kept A ps viable cap) n ≡ some d) t v,
            (
              steps_to c s d (e, ap (λ (n : ℕ). n ∷ []) (sym o) ∙ key, i),
              ListFacts.placed (kept A ps viable cap) a.source u,
              ListFacts.placed (kept A ps viable cap) a.target v,
            ),
          )

      table_ordered : OrderedTable I.automaton (input_state I) (input_arc I)
      unfolding assemble
      table_ordered = record {
        states = subst (λ (n : ℕ). Ordered (table_graph I.automaton (input_state I) (input_arc I)) (range zero n)) (sym (length-map (kept A ps viable cap) (state_of A)))
            (ordered_iff (by_number (within (config_graph A ps) (kept A ps viable cap)) (kept A ps viable cap)) (table_graph I.automaton (input_state I) (input_arc I))
            (range zero (length (kept A ps viable cap)))
            (λ s k m. starts-table s k) table-starts (λ j s k m n. steps_table j s k) (λ j s k m. table_steps j s k)
            (numbers_ordered (within (config_graph A ps) (kept A ps viable cap)) (kept A ps viable cap) result_kept_ordered));
        arcs = λ m n a b p q h. go m n a b (arc_edge A ps viable cap m a p) (arc_edge A ps viable cap n b q) h;
      }
        where
          go : (m n : ℕ) (a b : Arc W) → (x : Edge (ℕ × Arc W)) × (a ≡ arc_of x) × (CopyOf A ps viable cap) m x
              → (y : Edge (ℕ × Arc W)) × (b ≡ arc_of y) × (CopyOf A ps viable cap) n y → m < n
              → step a.source (input_arc I m) ⊏ step b.source ((input_arc I) n)
          go m n a b (x, ax, cx) (y, ay, cy) h =
              let r = PairwiseFacts.pairwise_places _ (kept_edges A ps viable cap)
              (edges_increase same_config (out A ps viable) (kept A ps viable cap) arc_key steps_increase) m n cx.edge cy.edge h in
              subst (λ (z : Arrival). z ⊏ step b.source ((input_arc I) n)) (λ i. step (sym ax i).source (sym cx.numbered_as i ∷ []))
              (subst (λ (z : Arrival). step x.from (arc_key x.label) ⊏ z) (λ i. step (sym ay i).source (sym cy.numbered_as i ∷ [])) r)

      -- the configurations kept are the live ones
      live_to : (c : Config) → Coaccessible (out A ps viable) (accepting A) cs c → (c ∈ cs) × Live A ps c
      live_to c (Trim.ends m f) = (m, Order.ends f)
      live_to c (Trim.goes {d = d} m s r) =
          let (l, i) = successors_label (out A ps viable) c d s in
          (m, Order.goes (steps_to c (arc_key l) d (l, refl, i)) (live_to d r).1)

      live_from : (c : Config) → c ∈ cs → Live A ps c → Coaccessible (out A ps viable) (accepting A) cs c
      live_from c m (Order.ends f) = Trim.ends m f
      live_from c m (Order.goes {d = d} {s = s} h r) =
          let (k, e) = ListFacts.place cs m in
          let (l, _, i) = steps_from cs undelayed c s d m h in
          Trim.goes m (ListFacts.map_keeps (λ (z : (ℕ × Arc W) × Config). z.1) (out A ps viable c) i) (live_from d (found_ordered.complete (step k s) d (c, e, h)) r)

      pub result_order : IntersectionOrder A ps (result A ps viable cap)
      unfolding assemble
      result_order = record {
        tapes = refl;
        reached = cs;
        reached_ordered = found_ordered;
        kept = λ c. (λ m. live_to c ((exact.live c).0 m), λ (m, h). (exact.live c).1 (live_from c m h));
        gaps_closed = gaps;
        states = refl;
        arcs_step = λ m a e.
            let (c, d, l, u, v, i, o, w) = exact.arcs m a e in
            let (p, f, t) = step_parts c l d i in
            (c, d, l.1, u, v, subst (λ (n : ℕ). get_elem? A.arcs n ≡ some l.1) (sym o) p, f, t, w);
        steps_arc = λ k j c d e b u v p f t.
            let m = gaps.some_of c (ListFacts.placed (kept A ps viable cap) k u) in
            let h = reached-viable d (gaps.some_of d (ListFacts.placed (kept A ps viable cap) j v)) in
            let (n, q, o) = exact.steps k j c d (e, b) u v (step-out cs undelayed c d e b m p f t h) in
            (n, arc_of (record { from = k; label = (e, b); to = j }), q, refl, refl, refl, o);
        result_ordered = table_ordered;
      }

-- A result is in the order of request 2.2.
pub intersection_order : {W : Type 0} (A : Automaton W) (ps : List TapePair) (space : Space) (I : Intersection W) → Formed A → intersect A ps space ≡ ok I
    → IntersectionOrder A ps I
unfolding intersect
intersection_order {W} A ps space I formed e =
    let v = Closing.viable (closing_tables A ps) in
    let b = built_fits A ps v space I e in
    subst (IntersectionOrder A ps) (sym b.1) (result_order A ps v (viable_decides A formed ps) (state_cap space) b.0.states b.0.undelayed)
