-- All configurations that are reached, taken up one after the other.
use Prim.Native.Nat.{ℕ, zero, suc, ◌*◌, ◌≤◌, ◌<◌}
use mathlib.Core.Path.{◌≡◌, refl, sym, ◌∙◌, subst}
use mathlib.Core.Bool.{Bool, true, false}
use mathlib.Core.List.{List}
use native.Mathlib.Omega.{arith}
use lib.ListN.{length, take}
use Rattle.automata.specs.Lists.{any, or}
use Rattle.automata.specs.Automaton.{Arc}
use Rattle.automata.specs.Config as automata
use Rattle.automata.specs.Config.{same_config}
use Rattle.automata.specs.Offer.{late_up_to}
use Rattle.automata.specs.Search.{searched}
use Rattle.automata.specs.Intersect.{starts, out, reached_configs, delayed}
use Rattle.automata.proofs.ListFacts
use Rattle.automata.proofs.TestFacts
use Rattle.automata.proofs.Configurations.{configs_decided}
use Rattle.automata.proofs.SearchFacts.{searched_some, found_over, taken_any, taken_all}
use Rattle.automata.proofs.IntersectSteps.{delayed-late}
use Rattle.automata.proofs.SoundFacts.{sound_well_formed, sound_holds}
use Rattle.automata.specs.Layout.{arc_size, config_size, delays_size}
use Rattle.intersect_config.specs.Configs.{row_size}
use Rattle.table.specs.Answers.{lent}
use Rattle.search_rows.proofs.SearchFacts.{searched_begun, searched_whole}
use Rattle.table_adjacency.specs.Chains.{Chainable}
use Rattle.search_chains.specs.Chain.{Clears}
use Rattle.delays.specs.ClosingRegion.{HoldsClosing, WritesClosing}
use Rattle.delays.proofs.KeptFacts.{holds_part}
use Rattle.intersect_offers.specs.declared.plan.Plan.{Plan}
use Rattle.intersect_head.specs.declared.head.Head.{Head}
use Rattle.intersect_offers.specs.Plans.{Explorable, table_in, pairs_in, tables_in, viable_in}
use Rattle.intersect_offers.proofs.OfferFacts.{arc_exists, arc_reads, arc_source, arc_source_fits}
use Rattle.intersect_head.specs.Searching.{bucket_by, ConfigSearch, Holds, Comes, Takable, TakesUp}
use Rattle.intersect_head.specs.Starting.{Beginnable, Begun}
use Rattle.intersect_head.proofs.HeldFacts.{few_closings}
use Rattle.intersect_search.specs.Exploring.{begun_search, ComesToReached, Runnable, Runs, Explored}

module _ (p : Plan) (states arcs : List ℕ) where
  abbrev out_in : automata.Config → List ((ℕ × Arc ℕ) × automata.Config)
  out_in = out (table_in p states arcs) (pairs_in p) (viable_in p states arcs)

  abbrev starts_in : List automata.Config
  starts_in = starts (table_in p states arcs) (pairs_in p) (viable_in p states arcs)

  -- the search when k configurations have been taken up
  abbrev pub search_at : ℕ → ConfigSearch
  search_at k = searched same_config (out (table_in p states arcs) (pairs_in p) (viable_in p states arcs)) (starts (table_in p states arcs) (pairs_in p) (viable_in p states arcs)) k

  -- some step of a configuration is too long
  abbrev pub late_in : automata.Config → Bool
  late_in = late_up_to (table_in p states arcs) (pairs_in p) (viable_in p states arcs) (length (table_in p states arcs).arcs)

  -- where all are taken up, what is held are the reached configurations and their edges
  pub all_taken : (k : ℕ) (h : Head) (w : List ℕ) → length (search_at k).vertices ≤ k → Holds p states arcs h (search_at k) (any late_in (take k (search_at k).vertices)) w
      → ComesToReached p states arcs h w
  unfolding reached_configs
  all_taken k h w b o =
      let e = searched_whole same_config configs_decided out_in starts_in p.room.states k o.fits b in
      let g : any late_in (take k (search_at k).vertices) ≡ delayed (table_in p states arcs) (pairs_in p) (viable_in p states arcs) (search_at k).vertices
      = taken_all same_config configs_decided out_in starts_in late_in k b ∙ sym (delayed-late (table_in p states arcs) (pairs_in p) (viable_in p states arcs) (search_at k).vertices) in
      let o1 = subst (λ (l : Bool). Holds p states arcs h (search_at k) l w) g o in
      let o2 = subst (λ (s : ConfigSearch). Holds p states arcs h s (delayed (table_in p states arcs) (pairs_in p) (viable_in p states arcs) s.vertices) w) e o1 in
      record { held = λ n. o2; over = λ n. TestFacts.false_not_true o2.not_full n }

  -- where there are too many at any time, too many are reached
  pub too_many : (k : ℕ) (h : Head) (w : List ℕ) → h.full ≡ true → p.room.states < length (search_at k).vertices → ComesToReached p states arcs h w
  unfolding reached_configs
  too_many k h w f m = record {
    held = λ n. TestFacts.false_not_true n f;
    over = λ n. found_over same_config configs_decided out_in starts_in p.room.states k m;
  }

-- ---- a run

-- as many configurations as the head g tells were taken up, from the head h and the work space v on
pub record Running (p : Plan) (h : Head) (arcs : List ℕ) (v : List ℕ) (g : Head) (w : List ℕ) : Type 0 where
  pub few : g.arcs ≤ 8192 * g.taken
  pub same_length : length w ≡ length v
  pub meaning : (states : List ℕ) → Explorable p states arcs (length v) → Comes p states arcs h (begun_search p states arcs) false v
      → Holds p states arcs g (search_at p states arcs g.taken) (any (late_in p states arcs) (take g.taken (search_at p states arcs g.taken).vertices)) w

module _ (p : Plan) (h : Head) (arcs : List ℕ) (v : List ℕ) (q : Runnable p h arcs v) where
  -- too many configurations to begin with
  pub run_none : h.full ≡ true → Runs p h arcs v h v
  run_none f = record {
    same_length = refl;
    meaning = λ states x c. too_many p states arcs 0 h v f (subst (λ (s : ConfigSearch). p.room.states < length s.vertices) (searched_begun same_config (out_in p states arcs) (starts_in p states arcs)) (c.over f));
  }

  pub run_start : h.full ≡ false → Running p h arcs v h v
  run_start f = record {
    few = omega (arith, q.arcs_none);
    same_length = refl;
    meaning = λ states x c.
        let o = subst (λ (s : ConfigSearch). Holds p states arcs h s false v) (searched_begun same_config (out_in p states arcs) (starts_in p states arcs)) (c.held f) in
        subst (λ (k : ℕ). Holds p states arcs h (search_at p states arcs k) (any (late_in p states arcs) (take k (search_at p states arcs k).vertices)) v) (sym q.taken) o;
  }

  module _ (g : Head) (w : List ℕ) (t : Running p h arcs v g w) where
    wider : (states : List ℕ) → Explorable p states arcs (length v) → Explorable p states arcs (length w)
    wider states x = subst (Explorable p states arcs) (sym t.same_length) x

    pub run_requires : g.taken < g.reached → Takable p g arcs w
    run_requires b = record {
      states = q.states;
      search = _;
      late = _;
      explorable = wider q.states q.explorable;
      holds = t.meaning q.states q.explorable q.begun;
      taken_fits = b;
      few = t.few;
    }

    -- there is room for one more to be taken up
    pub run_room : g.taken < g.reached → g.taken < p.room.states
    run_room b = let o = t.meaning q.states q.explorable q.begun in omega (arith, o.reached, o.fits, b)

    module _ (b : g.taken < g.reached) (r : Head) (u : List ℕ) (z : TakesUp p g arcs w r u) where
      run_comes : (states : List ℕ) → Explorable p states arcs (length v) → Comes p states arcs h (begun_search p states arcs) false v
          → Comes p states arcs r (search_at p states arcs (suc g.taken))
          (any (late_in p states arcs) (take (suc g.taken) (search_at p states arcs (suc g.taken)).vertices)) u
      run_comes states x c =
          let o = t.meaning states x c in
          let y = ListFacts.place_exists (search_at p states arcs g.taken).vertices g.taken (omega (arith, o.reached, b)) in
          let before : Bool = any (late_in p states arcs) (take g.taken (search_at p states arcs g.taken).vertices) in
          let c0 = z.meaning states (search_at p states arcs g.taken) before y.0 (wider states x) o y.1 in
          let c1 = subst (λ (s : ConfigSearch). Comes p states arcs r s (or before (late_in p states arcs y.0)) u) (sym (searched_some same_config configs_decided (out_in p states arcs) (starts_in p states arcs) g.taken y.0 y.1)) c0 in
          subst (λ (l : Bool). Comes p states arcs r (search_at p states arcs (suc g.taken)) l u)
          (sym (taken_any same_config configs_decided (out_in p states arcs) (starts_in p states arcs) (late_in p states arcs) g.taken y.0 y.1)) c1

      pub run_next : r.full ≡ false → Running p h arcs v r u
      run_next f = record {
        few = z.few f;
        same_length = z.same_length ∙ t.same_length;
        meaning = λ states x c.
            let n : suc g.taken ≡ r.taken = omega (arith, z.taken f) in
            subst (λ (k : ℕ). Holds p states arcs r (search_at p states arcs k) (any (late_in p states arcs) (take k (search_at p states arcs k).vertices)) u) n ((run_comes states x c).held f);
      }

      pub run_full : r.full ≡ true → Runs p h arcs v r u
      run_full f = record {
        same_length = z.same_length ∙ t.same_length;
        meaning = λ states x c. too_many p states arcs (suc g.taken) r u f ((run_comes states x c).over f);
      }

    pub run_end : g.reached ≤ g.taken → Runs p h arcs v g w
    run_end b = record {
      same_length = t.same_length;
      meaning = λ states x c. let o = t.meaning states x c in all_taken p states arcs g.taken g w (omega (arith, o.reached, b)) o;
    }

-- ---- the arcs by their sources

-- the arcs of the table may be chained
pub chainable : (p : Plan) (states arcs : List ℕ) (size : ℕ) → Explorable p states arcs size → Chainable p.counts.states p.counts.arcs arcs 1024 8192
chainable p states arcs size x =
    let m = lent p.counts states arcs in
    let wf = (sound_well_formed m x.sound).counts in
    let holds = sound_holds m x.sound in
    let few : p.counts.arcs ≤ 8192 = omega (arith, wf.arcs_fit, holds.arcs) in
    record {
      whole = whole p.counts.arcs refl;
      few = few;
      sources = λ j b.
          let y = arc_exists p states arcs size x j b in
          let s = arc_source p states arcs size x j y.0 y.1 in
          let f = arc_source_fits p states arcs size x j y.0 y.1 in
          omega (arith, s, f);
      states_fit = omega (arith, wf.states_fit, holds.states);
      arcs_fit = few;
    }
  where
    whole : (n : ℕ) → n ≡ p.counts.arcs → arc_size * n ≤ length arcs
    whole zero e = omega arith
    whole (suc n) e =
        let y = arc_exists p states arcs size x n (omega arith) in
        let r = (arc_reads p states arcs size x n y.0 y.1).whole in
        omega (arith, r)

-- ---- the whole

module _ (p : Plan) (states arcs : List ℕ) (v : List ℕ) (x : Explorable p states arcs (length v)) (w : List ℕ) (c : WritesClosing (lent p.counts states arcs) p.pairs p.room.delays w v) where
  closed : Explorable p states arcs (length w)
  closed = subst (Explorable p states arcs) (sym c.same_length) x

  module _ (t : List ℕ) (e : Clears config_size row_size p.room.states w t) where
    cleared : Explorable p states arcs (length t)
    cleared = subst (Explorable p states arcs) (sym e.same_length) closed

    -- empty chains leave the closing tables
    closing : HoldsClosing (tables_in p states arcs) p.room.delays p.counts.states t
    closing = holds_part (tables_in p states arcs) p.room.delays p.counts.states t w (few_closings p states arcs (length w) closed)
        (e.kept p.room.delays (delays_size * p.counts.states) (omega (arith, x.configs_fit, x.edges_fit))) c.tables

    pub may_begin : Beginnable p states t
    may_begin = record { arcs = arcs; explorable = cleared; closing = closing; chained = e.chained (bucket_by p.pairs.used p.room.states) }

    module _ (h : Head) (u : List ℕ) (b : Begun p states t h u) where
      begun : Comes p states arcs h (begun_search p states arcs) false u
      begun = b.meaning arcs cleared closing (e.chained (bucket_by p.pairs.used p.room.states))

      open_still : Explorable p states arcs (length u)
      open_still = subst (Explorable p states arcs) (sym b.same_length) cleared

      pub may_run : Runnable p h arcs u
      may_run = record { states = states; explorable = open_still; begun = begun; taken = b.taken; arcs_none = b.arcs }

      pub explored : (r : Head) (z : List ℕ) → Runs p h arcs u r z → Explored p states arcs v r z
      explored r z y = record {
        same_length = y.same_length ∙ b.same_length ∙ e.same_length ∙ c.same_length;
        comes = y.meaning states open_still begun;
      }
