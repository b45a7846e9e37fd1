-- The arcs of a configuration that is taken up, one after the other.
use Prim.Native.Nat.{ℕ, zero, suc, ◌+◌, ◌-◌, ◌*◌, ◌≤◌, ◌<◌}
use mathlib.Core.Path.{◌≡◌, refl, sym, ap, ◌∙◌, subst}
use mathlib.Core.Bool.{Bool, true, false}
use mathlib.Core.Option.{none, some}
use mathlib.Core.List.{List, []}
use native.Mathlib.Omega.{arith}
use lib.ListN.{length, get_or, get_elem?}
use Rattle.automata.specs.Limits.{max_delay}
use Rattle.automata.specs.Lists.{or}
use Rattle.automata.specs.Automaton.{Arc, Automaton}
use Rattle.automata.specs.Config as automata
use Rattle.automata.specs.Config.{same_config}
use Rattle.automata.specs.TapePair.{TapePair}
use Rattle.automata.specs.Offer.{Offer, nothing, late, to, successor, is_late, offer, out_up_to, late_up_to}
use Rattle.automata.specs.Search.{note_all}
use Rattle.automata.specs.Intersect.{out}
use Rattle.automata.proofs.ListFacts
use Rattle.automata.proofs.WellFormedFacts.{all-place}
use Rattle.automata.proofs.TestFacts
use Rattle.automata.proofs.AppendFacts.{or-none}
use Rattle.automata.proofs.Configurations.{configs_decided}
use Rattle.automata.proofs.SoundFacts.{sound_well_formed}
use Rattle.automata.proofs.IntersectSteps.{out_up_to_zero, out_up_to-all, out_up_to-begins, noted-to, noted-none, late_up_to_zero, late_up_to_suc}
use Rattle.automata.specs.Layout.{config_size}
use Rattle.table.specs.Region.{part}
use Rattle.table.specs.Answers.{lent}
use Rattle.search_chains.proofs.Meaning.{code_at}
use Rattle.search_rows.proofs.ProgressFacts.{grows_none, grows_then}
use Rattle.search_rows.proofs.SearchFacts.{noted_longer}
use Rattle.table.proofs.RegionFacts.{length_part}
use Rattle.table.specs.Arcs.{source_of}
use Rattle.table_adjacency.specs.Chains.{Chained}
use Rattle.table_adjacency.proofs.ChainFacts.{First, first-arc, next-arc}
use Rattle.intersect_config.specs.Leftovers.{outside}
use Rattle.intersect_config.specs.Configs.{Config, config_as, GoodConfig, config_bytes, config_at, row_size}
use Rattle.intersect_config.proofs.RoundFacts.{config_row, load_row}
use Rattle.intersect_offers.specs.declared.plan.Plan.{Plan}
use Rattle.intersect_head.specs.declared.head.Head.{Head}
use Rattle.intersect_offers.specs.Held.{config_of, row_of}
use Rattle.intersect_offers.specs.Plans.{Explorable, table_in, pairs_in, viable_in, StoredIn}
use Rattle.intersect_head.specs.Searching.{progress, ConfigSearch, Grows, Holds, Comes, note_offer, Visitable, Visits, Takable, TakesUp}
use Rattle.intersect_offers.specs.Offers.{Offerable}
use Rattle.intersect_offers.proofs.OfferFacts.{arc_count, arc_exists, offers_away}
use Rattle.intersect_head.proofs.VisitFacts.{visits_nothing}

-- ---- the configuration that is loaded

module _ (p : Plan) (states arcs : List ℕ) (h : Head) (s : ConfigSearch) (late : Bool) (w : List ℕ) (x : Explorable p states arcs (length w)) (o : Holds p states arcs h s late w)
    (k : ℕ) (c : automata.Config) (e : get_elem? s.vertices k ≡ some c) where
  -- a configuration that is held may be stored, and its row is within the work space
  pub place_stored : StoredIn p c
  place_stored = all-place (StoredIn p) s.vertices o.stored k c e

  pub place_fits : config_size * k + config_size ≤ length w
  place_fits = let b = ListFacts.place_bound s.vertices k e in omega (arith, b, o.fits, x.configs_fit, x.edges_fit, x.delays_fit)

  -- what is loaded from the row of a configuration is the configuration by value
  pub loaded : config_at (config_size * k) w ≡ config_of c
  unfolding row_of
  loaded =
      let a : config_size * k ≡ k * config_size = omega arith in
      let r : part (config_size * k) row_size w ≡ config_bytes (config_of c) = ap (λ (m : ℕ). part m row_size w) a ∙ code_at row_of config_size row_size s.vertices w k c o.configs e in
      load_row p.pairs.used (config_size * k) (config_of c) w place_stored.form r

-- ---- the search with one arc more

or_three : (a b c : Bool) → or (or a b) c ≡ or a (or b c)
or_three true b c = refl
or_three false b c = refl

module _ (A : Automaton ℕ) (ps : List TapePair) (test : automata.Config → Bool) (k : ℕ) (s : ConfigSearch) (c : automata.Config) (j : ℕ) (a : Arc ℕ) (e : get_elem? A.arcs j ≡ some a) where
  note-more : note_offer k (note_all same_config k s (out_up_to A ps test j c)) (j, a) (offer ps test c a) ≡ note_all same_config k s (out_up_to A ps test (suc j) c)
  note-more = go (offer ps test c a) refl
    where
      none_more : (o : Offer automata.Config) → offer ps test c a ≡ o → successor o ≡ none → note_all same_config k s (out_up_to A ps test j c) ≡ note_all same_config k s (out_up_to A ps test (suc j) c)
      none_more o q n = sym (noted-none A ps test k s j a c e (ap successor q ∙ n))

      go : (o : Offer automata.Config) → offer ps test c a ≡ o → note_offer k (note_all same_config k s (out_up_to A ps test j c)) (j, a) o ≡ note_all same_config k s (out_up_to A ps test (suc j) c)
      go nothing q = none_more nothing q refl
      go late q = none_more late q refl
      go (to d) q = sym (noted-to A ps test k s j a c d e q)

  late-more : (l : Bool) → or (or l (late_up_to A ps test j c)) (is_late (offer ps test c a)) ≡ or l (late_up_to A ps test (suc j) c)
  late-more l = or_three l (late_up_to A ps test j c) (is_late (offer ps test c a)) ∙ ap (or l) (sym (late_up_to_suc A ps test j a c e))

-- no step is noted
none-noted : (k : ℕ) (s : ConfigSearch) (xs : List ((ℕ × Arc ℕ) × automata.Config)) → xs ≡ [] → s ≡ note_all same_config k s xs
unfolding note_all
none-noted k s xs e = sym (ap (note_all same_config k s) e)

-- ---- a turn

-- the first j arcs were looked at, from the head h and the work space v to g and w
pub record Turning (p : Plan) (h : Head) (arcs : List ℕ) (v : List ℕ) (g : Head) (w : List ℕ) (j : ℕ) : Type 0 where
  pub within : j ≤ p.counts.arcs
  pub grows : Grows p j h v g w
  pub meaning : (states : List ℕ) (s : ConfigSearch) (l : Bool) (c : automata.Config) → Explorable p states arcs (length v) → Holds p states arcs h s l v
      → get_elem? s.vertices h.taken ≡ some c
      → Holds p states arcs g (note_all same_config h.taken s (out_up_to (table_in p states arcs) (pairs_in p) (viable_in p states arcs) j c))
      (or l (late_up_to (table_in p states arcs) (pairs_in p) (viable_in p states arcs) j c)) w

-- the first j arcs were looked at for the configuration d, and the next one, where there is one, leaves its state
pub record Chaining (p : Plan) (h : Head) (arcs : List ℕ) (v : List ℕ) (d : Config) (g : Head) (w : List ℕ) (j : ℕ) : Type 0 where
  pub turning : Turning p h arcs v g w j
  pub leaves : j < p.counts.arcs → source_of arcs j ≡ d.state.0

module _ (p : Plan) (h : Head) (arcs : List ℕ) (v : List ℕ) (q : Takable p h arcs v) where
  -- the configuration that is taken up
  there_is : (c : automata.Config) × (get_elem? q.search.vertices h.taken ≡ some c)
  there_is = ListFacts.place_exists q.search.vertices h.taken (omega (arith, q.taken_fits, q.holds.reached))

  pub load_fits : config_size * h.taken + row_size ≤ length v
  load_fits = let b = place_fits p q.states arcs h q.search q.late v q.explorable q.holds h.taken there_is.0 there_is.1 in omega (arith, b)

  -- how many arcs there are at most
  pub few_arcs : p.counts.arcs ≤ 8192
  few_arcs =
      let many = (sound_well_formed (lent p.counts q.states arcs) q.explorable.sound).counts.arcs_fit in
      omega (arith, many, arc_count p q.states arcs (length v) q.explorable 0)

  pub turn_start : Turning p h arcs v h v 0
  turn_start = record {
    within = omega arith;
    grows = grows_none p.room.states 0 (progress h) v (omega (arith, q.holds.reached, q.holds.fits));
    meaning = λ states s l c x o e.
        let A = table_in p states arcs in
        let test = viable_in p states arcs in
        subst (λ (z : Bool). Holds p states arcs h (note_all same_config h.taken s (out_up_to A (pairs_in p) test 0 c)) (or l z) v) (sym (late_up_to_zero A (pairs_in p) test c))
        (subst (λ (z : Bool). Holds p states arcs h (note_all same_config h.taken s (out_up_to A (pairs_in p) test 0 c)) z v) (sym (or-none l))
        (subst (λ (z : ConfigSearch). Holds p states arcs h z l v) (none-noted h.taken s _ (out_up_to_zero A (pairs_in p) test c)) o));
  }

  -- the record that is loaded is that configuration's
  pub own_loaded : (own : List ℕ) → own ≡ part (config_size * h.taken) row_size v → config_at 0 own ≡ config_at (config_size * h.taken) v
  own_loaded own e = ap (config_at 0) e ∙ sym (config_row (config_size * h.taken) v)

  pub own_whole : (own : List ℕ) → own ≡ part (config_size * h.taken) row_size v → length own ≡ row_size
  own_whole own e = ap length e ∙ length_part (config_size * h.taken) row_size v load_fits

  module _ (d : Config) (ld : d ≡ config_at (config_size * h.taken) v) where
    -- the loaded configuration stands for the one taken up
    loaded_as : (states : List ℕ) (s : ConfigSearch) (l : Bool) (c : automata.Config) → Explorable p states arcs (length v) → Holds p states arcs h s l v
        → get_elem? s.vertices h.taken ≡ some c → config_as p.pairs.used d ≡ c
    loaded_as states s l c x o e = ap (config_as p.pairs.used) (ld ∙ loaded p states arcs h s l v x o h.taken c e) ∙ (place_stored p states arcs h s l v x o h.taken c e).meaning

    module _ (g : Head) (w : List ℕ) (j : ℕ) (t : Turning p h arcs v g w j) where
      more_room : (states : List ℕ) → Explorable p states arcs (length v) → Explorable p states arcs (length w)
      more_room states x = subst (Explorable p states arcs) (sym t.grows.same_length) x

      pub turn_requires : j < p.counts.arcs → Visitable p g d arcs j w
      turn_requires b =
          let c = there_is.0 in
          let e = there_is.1 in
          let f : d ≡ config_of c = ld ∙ loaded p q.states arcs h q.search q.late v q.explorable q.holds h.taken c e in
          let m = place_stored p q.states arcs h q.search q.late v q.explorable q.holds h.taken c e in
          record {
            states = q.states;
            search = _;
            late = _;
            explorable = more_room q.states q.explorable;
            holds = t.meaning q.states q.search q.late c q.explorable q.holds e;
            good = subst (GoodConfig p.pairs.used) (sym f) m.form;
            short = subst (λ (z : Config). (i : ℕ) → i < p.pairs.used → (get_or z.leftovers i outside).len ≤ max_delay) (sym f) m.short;
            arc_fits = b;
            taken_fits = omega (arith, t.grows.taken, t.grows.grown, q.taken_fits);
            few = omega (arith, t.grows.taken, t.grows.few, q.few);
          }

      module _ (b : j < p.counts.arcs) (r : Head) (u : List ℕ) (z : Visits p g d arcs j w r u) where
        turn_comes : (states : List ℕ) (s : ConfigSearch) (l : Bool) (c : automata.Config) → Explorable p states arcs (length v) → Holds p states arcs h s l v
            → get_elem? s.vertices h.taken ≡ some c
            → Comes p states arcs r (note_all same_config h.taken s (out_up_to (table_in p states arcs) (pairs_in p) (viable_in p states arcs) (j + 1) c))
            (or l (late_up_to (table_in p states arcs) (pairs_in p) (viable_in p states arcs) (j + 1) c)) u
        turn_comes states s l c x o e =
            let A = table_in p states arcs in
            let ps = pairs_in p in
            let test = viable_in p states arcs in
            let y = arc_exists p states arcs (length v) x j b in
            let a : Arc ℕ = y.0 in
            let sj : ConfigSearch = note_all same_config h.taken s (out_up_to A ps test j c) in
            let lj : Bool = or l (late_up_to A ps test j c) in
            let n : suc j ≡ j + 1 = omega arith in
            let c0 = z.meaning states sj lj a (more_room states x) (t.meaning states s l c x o e) y.1 in
            let c1 = subst (λ (k : automata.Config). Comes p states arcs r (note_offer g.taken sj (j, a) (offer ps test k a)) (or lj (is_late (offer ps test k a))) u) (loaded_as states s l c x o e) c0 in
            let c2 = subst (λ (k : ℕ). Comes p states arcs r (note_offer k sj (j, a) (offer ps test c a)) (or lj (is_late (offer ps test c a))) u) t.grows.taken c1 in
            let c3 = subst (λ (k : ConfigSearch). Comes p states arcs r k (or lj (is_late (offer ps test c a))) u) (note-more A ps test h.taken s c j a y.1) c2 in
            let c4 = subst (λ (k : Bool). Comes p states arcs r (note_all same_config h.taken s (out_up_to A ps test (suc j) c)) k u) (late-more A ps test h.taken s c j a y.1 l) c3 in
            subst (λ (k : ℕ). Comes p states arcs r (note_all same_config h.taken s (out_up_to A ps test k c)) (or l (late_up_to A ps test k c)) u) n c4

        pub turn_next : r.full ≡ false → Turning p h arcs v r u (j + 1)
        turn_next f = record {
          within = omega arith;
          grows = grows_then p.room.states j 1 (j + 1) (progress h) (progress g) (progress r) v w u t.grows z.grows (omega arith);
          meaning = λ states s l c x o e. (turn_comes states s l c x o e).held f;
        }

        -- the configurations are full before all arcs were looked at
        pub turn_full : r.full ≡ true → TakesUp p h arcs v r u
        turn_full f = record {
          taken = λ n. TestFacts.false_not_true n f;
          few = λ n. TestFacts.false_not_true n f;
          same_length = z.grows.same_length ∙ t.grows.same_length;
          meaning = λ states s l c x o e. record {
            held = λ n. TestFacts.false_not_true n f;
            over = λ n.
                let A = table_in p states arcs in
                let ps = pairs_in p in
                let test = viable_in p states arcs in
                let m = (turn_comes states s l c x o e).over f in
                let y = out_up_to-begins A ps test (j + 1) c in
                omega (arith, m, noted_longer same_config configs_decided h.taken s (out_up_to A ps test (j + 1) c) y.rest (out A ps test c) y.joined);
          };
        }

      -- an arc that leaves another state is passed over
      turn_skip : j < p.counts.arcs → (source_of arcs j ≡ d.state.0 → ⊥) → Turning p h arcs v g w (j + 1)
      turn_skip b n =
          let y = turn_requires b in
          let m : Offerable p d arcs j w = record { states = y.states; explorable = y.explorable; good = y.good; short = y.short; arc_fits = b } in
          turn_next b g w (visits_nothing p g d arcs j w y _ (offers_away p d arcs j w m (source_of arcs j) d y.good refl n) refl) y.holds.not_full

      -- all arcs were looked at
      pub turn_end : p.counts.arcs ≤ j → TakesUp p h arcs v (record { taken = g.taken + 1; reached = g.reached; arcs = g.arcs; late = g.late; full = g.full }) w
      turn_end b =
          record {
            taken = λ n. omega (arith, t.grows.taken);
            few = λ n. omega (arith, t.grows.taken, t.grows.few, t.within, few_arcs, q.few);
            same_length = t.grows.same_length;
            meaning = λ states s l c x o e.
                let A = table_in p states arcs in
                let ps = pairs_in p in
                let test = viable_in p states arcs in
                let n : j ≡ length A.arcs = omega (arith, t.within, arc_count p states arcs (length v) x 0) in
                let m = t.meaning states s l c x o e in
                let m1 = subst (λ (k : ℕ). Holds p states arcs g (note_all same_config h.taken s (out_up_to A ps test k c)) (or l (late_up_to A ps test k c)) w) n m in
                let m2 = subst (λ (k : List ((ℕ × Arc ℕ) × automata.Config)). Holds p states arcs g (note_all same_config h.taken s k) (or l (late_up_to A ps test (length A.arcs) c)) w)
                (out_up_to-all A ps test c) m1 in
                record {
                  held = λ f. record {
                    configs = m2.configs;
                    chained = m2.chained;
                    edges = m2.edges;
                    closing = m2.closing;
                    reached = m2.reached;
                    fits = m2.fits;
                    arc_count = m2.arc_count;
                    late_is = m2.late_is;
                    not_full = m2.not_full;
                    stored = m2.stored;
                  };
                  over = λ f. TestFacts.false_not_true m2.not_full f;
                };
          }

    -- ---- the arcs that leave the state

    -- the state of the configuration is one of the table
    pub state_fits : d.state.0 < p.counts.states
    state_fits =
        let c = there_is.0 in
        let e = there_is.1 in
        let f : d ≡ config_of c = ld ∙ loaded p q.states arcs h q.search q.late v q.explorable q.holds h.taken c e in
        let m = place_stored p q.states arcs h q.search q.late v q.explorable q.holds h.taken c e in
        subst (λ (z : Config). z.state.0 < p.counts.states) (sym f) m.state_fits

    -- arcs that leave other states are passed over
    turn_pass : (g : Head) (w : List ℕ) (n j k : ℕ) → j + n ≡ k → k ≤ p.counts.arcs → ((i : ℕ) → j ≤ i → i < k → source_of arcs i ≡ d.state.0 → ⊥)
        → Turning p h arcs v g w j → Turning p h arcs v g w k
    turn_pass g w zero j k e b f t = let z : j ≡ k = omega arith in subst (Turning p h arcs v g w) z t
    turn_pass g w (suc n) j k e b f t =
        turn_pass g w n (j + 1) k (omega arith) b (λ i l. f i (omega arith)) (turn_skip g w j t (omega arith) (f j (omega arith) (omega arith)))

    -- up to the first arc that leaves the state
    to-first : (g : Head) (w : List ℕ) (k j : ℕ) → Turning p h arcs v g w k → First arcs d.state.0 p.counts.arcs k j → Chaining p h arcs v d g w j
    to-first g w k j t f =
        let b = f.behind in
        record { turning = turn_pass g w (j - k) k j (omega (arith, b)) f.within f.between t; leaves = f.leaves }

    module _ (first next : List ℕ) (x : Chained p.counts.states p.counts.arcs arcs first next) where
      -- the first arc of the chain
      chain-start : Chaining p h arcs v d h v (get_or first d.state.0 0)
      chain-start = to-first h v 0 (get_or first d.state.0 0) turn_start (first-arc p.counts.states p.counts.arcs arcs first next x d.state.0 state_fits)

      -- found by the state's number
      pub chain_begin : (q : ℕ) → q ≡ d.state.0 → Chaining p h arcs v d h v (get_or first q 0)
      chain_begin k e = rw e chain-start

      -- the next arc stands behind
      pub chain-goes : (j : ℕ) → j < p.counts.arcs → source_of arcs j ≡ d.state.0 → j < get_or next j 0
      chain-goes j b e = let f = (next-arc p.counts.states p.counts.arcs arcs first next x d.state.0 j b e).behind in omega (arith, f)

      -- and, after a visit, the next
      pub chain_next : (g : Head) (w : List ℕ) (j : ℕ) → Chaining p h arcs v d g w j → (b : j < p.counts.arcs) (r : Head) (u : List ℕ) → Visits p g d arcs j w r u → r.full ≡ false
          → Chaining p h arcs v d r u (get_or next j 0)
      chain_next g w j t b r u z f =
          to-first r u (j + 1) (get_or next j 0) (turn_next g w j t.turning b r u z f)
          (next-arc p.counts.states p.counts.arcs arcs first next x d.state.0 j b (t.leaves b))
