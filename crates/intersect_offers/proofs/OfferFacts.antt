-- What an arc offers a configuration, from what the calls answer.
use Prim.Native.Nat.{ℕ, ◌+◌, ◌*◌, ◌≤◌, ◌<◌}
use mathlib.Core.Path.{◌≡◌, refl, sym, ap, ◌∙◌, subst}
use mathlib.Core.Bool.{Bool, true, false, not}
use mathlib.Core.Option.{Option, none, some, map, some-injective}
use mathlib.Core.List.{List, []}
use native.Mathlib.Omega.{arith}
use lib.Dec.{eqb}
use lib.ListN.{length, get_or, get_elem?, take, length-map}
use lib.Seq.{length-take-le}
use borrow.Author.Tests.{eq-eqb, ne_eqb}
use Rattle.automata.specs.Lists.{if, guard}
use Rattle.automata.specs.Automaton.{Arc}
use Rattle.automata.specs.Leftover as leftover
use Rattle.automata.specs.Config as automata
use Rattle.automata.specs.Memory.{Memory, table_of}
use Rattle.automata.specs.Table.{WellFormedArc}
use Rattle.automata.specs.Offer.{Offer, nothing, late, to, offer_to, offer}
use Rattle.automata.proofs.ListFacts
use Rattle.automata.proofs.RecordFacts.{All_at}
use Rattle.automata.proofs.SoundFacts.{sound_well_formed, sound_holds}
use Rattle.automata.specs.Layout.{arc_size, delays_size}
use Rattle.table.specs.Region.{part}
use Rattle.table.specs.Endian.{le}
use Rattle.table.specs.Arcs.{source_at, source_of}
use Rattle.table.specs.Answers.{lent}
use Rattle.table.specs.Pairs.{pair_as, pairs_as}
use Rattle.delays_relaxation.proofs.TableFacts.{source_is}
use Rattle.intersect_config.specs.Configs.{Config, config_as, GoodConfig, lengths_on, config_at, config_bytes, row_size}
use Rattle.intersect_config.specs.Steps.{Followed, Reads, Followable, Follows, followed_as}
use Rattle.intersect_config.proofs.TestFacts.{length_of}
use Rattle.intersect_config.proofs.RowFacts.{length_row}
use Rattle.intersect_config.proofs.SoundFacts.{reads_arc, followable}
use Rattle.delays.specs.ClosingRegion.{HoldsClosing, Tests}
use Rattle.delays.proofs.TestFacts.{length_closings}
use Rattle.intersect_offers.specs.declared.plan.Plan.{Plan}
use Rattle.intersect_offers.specs.declared.offer.Kind.TheVariants.{Nothing, Late, To}
use Rattle.intersect_offers.specs.Plans.{Explorable, table_in, pairs_in, tables_in, viable_in}
use Rattle.intersect_offers.specs.Offers.{TellsViable, Offerable, Offers}
use Rattle.intersect_offers.proofs.FormFacts.{stored_form, not_long}

-- the state of the configuration in a row
pub state_read : (xs : List ℕ) (y : ℕ) → y ≡ le (part 0 2 xs) → y ≡ (config_at 0 xs).state.0
unfolding config_at
state_read xs y e = e

-- the test for viable configurations, by the lengths of the leftovers
pub tells_viable : (base used : ℕ) (c : Config) (firsts seconds w : List ℕ) (r : Bool) → used ≤ 4 → GoodConfig used c
    → firsts ≡ lengths_on false c → seconds ≡ lengths_on true c → Tests base c.state.0 used firsts seconds w r → TellsViable base used c w r
tells_viable base used c firsts seconds w r k g e f t T n o b l m =
    t T n (config_as used c) o b l m refl (record {
      count = length-map (take used c.leftovers) _ ∙ length-take-le used c.leftovers (omega (arith, g.four));
      first = λ h x q. ap (λ (z : List ℕ). get_or z h 0) e ∙ length_of false used h c x k q;
      second = λ h x q. ap (λ (z : List ℕ). get_or z h 0) f ∙ length_of true used h c x k q;
    })

-- a row that is the record of a configuration is as long as all
pub row_length : (used : ℕ) (row : List ℕ) → GoodConfig used (config_at 0 row) → config_bytes (config_at 0 row) ≡ row → length row ≡ row_size
row_length used row g e = length_row used row (record { good = g; bytes = e })

-- ---- an arc of the table read

module _ (p : Plan) (states arcs : List ℕ) (size : ℕ) (x : Explorable p states arcs size) (j : ℕ) where
  abbrev m : Memory
  m = lent p.counts states arcs

  -- there are as many arcs as told
  pub arc_count : length (table_in p states arcs).arcs ≡ p.counts.arcs
  arc_count = sym (sound_holds m x.sound).arcs

  module _ (a : Arc ℕ) (e : get_elem? (table_in p states arcs).arcs j ≡ some a) where
    pub arc-within : j < p.counts.arcs
    arc-within = let b = ListFacts.place_bound (table_in p states arcs).arcs j e in omega (arith, arc_count)

    arc_there : get_or (table_in p states arcs).arcs j (record { source = 0; target = 0; weight = 0; labels = [] }) ≡ a
    arc_there = ListFacts.place_default (table_in p states arcs).arcs j (record { source = 0; target = 0; weight = 0; labels = [] }) e

    pub arc_reads : Reads arcs (arc_size * j) p.counts.tapes a
    arc_reads = subst (Reads arcs (arc_size * j) p.counts.tapes) arc_there (reads_arc m x.sound j arc-within (record { source = 0; target = 0; weight = 0; labels = [] }))

    pub arc_source : a.source ≡ source_of arcs j
    arc_source = ap (λ (b : Arc ℕ). b.source) (sym arc_there) ∙ sym (source_is m (table_of m) (sound_well_formed m x.sound) (sound_holds m x.sound) j arc-within)
        ∙ ap (λ (k : ℕ). source_at k arcs) (omega arith)

    arc_well_formed : WellFormedArc (table_of m).tapes (length (table_of m).states) a
    arc_well_formed = subst (WellFormedArc (table_of m).tapes (length (table_of m).states)) arc_there
        (All_at (WellFormedArc (table_of m).tapes (length (table_of m).states)) (table_of m).arcs (record { source = 0; target = 0; weight = 0; labels = [] }) j (sound_well_formed m x.sound).arcs
        (ListFacts.place_bound (table_of m).arcs j e))

    -- its source and its target are states of the table
    pub arc_source_fits : a.source < p.counts.states
    arc_source_fits = let t = arc_well_formed.source in omega (arith, t, (sound_holds m x.sound).states)

    pub arc_target_fits : a.target < p.counts.states
    arc_target_fits = let t = arc_well_formed.target in omega (arith, t, (sound_holds m x.sound).states)

  pub arc_exists : j < p.counts.arcs → (a : Arc ℕ) × (get_elem? (table_in p states arcs).arcs j ≡ some a)
  arc_exists h = ListFacts.place_exists (table_in p states arcs).arcs j (omega (arith, arc_count))

-- the state of the configuration after an arc
followed-state : (d : automata.Config) (t : ℕ) (o : Option (List leftover.Leftover)) → some d ≡ map (λ ls. record { state = t; leftovers = ls }) o → d.state ≡ t
followed-state d t none e = ListFacts.none_not_some refl (sym e)
followed-state d t (some ls) e = ap (λ (x : automata.Config). x.state) (some-injective d (record { state = t; leftovers = ls }) e)

-- ---- what is offered

module _ (p : Plan) (c : Config) (arcs : List ℕ) (j : ℕ) (w : List ℕ) (o : Offerable p c arcs j w) where
  abbrev used : ℕ
  used = p.pairs.used

  some_arc : (a : Arc ℕ) × (get_elem? (table_in p o.states arcs).arcs j ≡ some a)
  some_arc = arc_exists p o.states arcs (length w) o.explorable j o.arc_fits

  pub used_four : used ≤ 4
  used_four = o.explorable.named.used_fit

  -- the record of the arc is whole, and may be followed
  pub record_whole : arc_size * j + arc_size ≤ length arcs
  record_whole = (arc_reads p o.states arcs (length w) o.explorable j some_arc.0 some_arc.1).whole

  pub may_follow_lem : Followable c arcs (arc_size * j) p.pairs
  may_follow_lem = followable c arcs (arc_size * j) p.counts.tapes p.pairs some_arc.0
      (arc_reads p o.states arcs (length w) o.explorable j some_arc.0 some_arc.1) o.explorable.named o.good
      (λ h l. let s = o.short h l in omega (arith, s))

  -- the definition, where the arc leaves another state
  pub offers_away : (x : ℕ) (d : Config) → GoodConfig used d → x ≡ source_of arcs j → (x ≡ c.state.0 → ⊥) → Offers p c arcs j w (record { kind = Nothing; config = d })
  unfolding offer
  offers_away x d q e n = record {
    good = q;
    stored = λ k. absurd (let z : ◌≡◌ {A = ℕ} 0 1 = cc in omega arith);
    meaning = λ states a ex hc g.
        let s : a.source ≡ x = arc_source p states arcs (length w) ex j a g ∙ sym e in
        let f : eqb a.source c.state.0 ≡ false = ap (λ (k : ℕ). eqb k c.state.0) s ∙ ne_eqb x c.state.0 n in
        sym (ap (λ (b : Bool). if b (offer_to (pairs_in p) (viable_in p states arcs) (automata.follow (pairs_in p) (config_as used c) a)) nothing) f);
  }

  module _ (x : ℕ) (e : x ≡ source_of arcs j) (n : x ≡ c.state.0) (r : Followed) (f : Follows c arcs (arc_size * j) p.pairs r) where
    -- the definition, by the configuration after the arc
    offer-to : (states : List ℕ) (a : Arc ℕ) → Explorable p states arcs (length w) → get_elem? (table_in p states arcs).arcs j ≡ some a
        → offer_to (pairs_in p) (viable_in p states arcs) (followed_as used r) ≡ offer (pairs_in p) (viable_in p states arcs) (config_as used c) a
    unfolding offer
    offer-to states a ex g =
        let s : a.source ≡ x = arc_source p states arcs (length w) ex j a g ∙ sym e in
        let t : eqb a.source c.state.0 ≡ true = eq-eqb a.source c.state.0 (s ∙ n) in
        let k : followed_as used r ≡ automata.follow (pairs_in p) (config_as used c) a = f.meaning p.counts.tapes a ex.named (arc_reads p states arcs (length w) ex j a g) in
        ap (offer_to (pairs_in p) (viable_in p states arcs)) k
        ∙ sym (ap (λ (b : Bool). if b (offer_to (pairs_in p) (viable_in p states arcs) (automata.follow (pairs_in p) (config_as used c) a)) nothing) t)

    -- nothing, where the tapes of some pair are not compatible
    pub offers_none : not r.compatible ≡ true → Offers p c arcs j w (record { kind = Nothing; config = r.config })
    offers_none h = record {
      good = f.good;
      stored = λ k. absurd (let z : ◌≡◌ {A = ℕ} 0 1 = cc in omega arith);
      meaning = λ states a ex hc g. go r.compatible h (viable_in p states arcs) ∙ offer-to states a ex g;
    }
      where
        go : (b : Bool) → not b ≡ true → (v : automata.Config → Bool) → nothing ≡ offer_to (pairs_in p) v (guard b (some (config_as used r.config)))
        go true h v = absurd (let z : ◌≡◌ {A = ℕ} 0 1 = cc in omega arith)
        go false h v = refl

    module _ (h : not r.compatible ≡ false) where
      followed_some : (states : List ℕ) (a : Arc ℕ) → Explorable p states arcs (length w) → get_elem? (table_in p states arcs).arcs j ≡ some a
          → followed_as used r ≡ some (config_as used r.config)
      followed_some states a ex g = go r.compatible h
        where
          go : (b : Bool) → not b ≡ false → guard b (some (config_as used r.config)) ≡ some (config_as used r.config)
          go true h = refl
          go false h = absurd (let z : ◌≡◌ {A = ℕ} 0 1 = cc in omega arith)

      -- its state is one of the table
      pub state_fits : r.config.state.0 < p.counts.states
      state_fits =
          let ex = o.explorable in
          let a = some_arc.0 in
          let g = some_arc.1 in
          let k : followed_as used r ≡ automata.follow (pairs_in p) (config_as used c) a =
          f.meaning p.counts.tapes a ex.named (arc_reads p o.states arcs (length w) ex j a g) in
          let s : r.config.state.0 ≡ a.target = followed-state (config_as used r.config) a.target (automata.advance_all (pairs_in p) (config_as used c).leftovers a)
          (sym (followed_some o.states a ex g) ∙ k) in
          let t = arc_target_fits p o.states arcs (length w) ex j a g in
          omega (arith, s, t)

      pub viable_fits : (used ≤ 4) × (GoodConfig used r.config) × (p.room.delays + delays_size * r.config.state.0 + delays_size ≤ length w)
      viable_fits = (used_four, f.good, omega (arith, state_fits, o.explorable.delays_fit))

      module _ (b : Bool) (t : TellsViable p.room.delays used r.config w b) where
        -- the test is the definition's
        tested : (states : List ℕ) → Explorable p states arcs (length w) → HoldsClosing (tables_in p states arcs) p.room.delays p.counts.states w
            → b ≡ viable_in p states arcs (config_as used r.config)
        tested states ex hc = t (tables_in p states arcs) p.counts.states hc ex.delays_fit state_fits
            (length_closings (lent p.counts states arcs) p.pairs (omega (arith, ex.named.used_fit, ex.four_pairs)))

        -- nothing, where it is not viable
        pub offers_blocked : not b ≡ true → Offers p c arcs j w (record { kind = Nothing; config = r.config })
        offers_blocked q = record {
          good = f.good;
          stored = λ k. absurd (let z : ◌≡◌ {A = ℕ} 0 1 = cc in omega arith);
          meaning = λ states a ex hc g.
              go rest b q ∙ ap (λ (y : Bool). if y rest nothing) (tested states ex hc)
              ∙ ap (offer_to (pairs_in p) (viable_in p states arcs)) (sym (followed_some states a ex g)) ∙ offer-to states a ex g;
        }
          where
            rest : Offer automata.Config
            rest = if (automata.too_long (pairs_in p) (config_as used r.config).leftovers) late (to (config_as used r.config))

            go : (z : Offer automata.Config) (y : Bool) → not y ≡ true → nothing ≡ if y z nothing
            go x true h = absurd (let z : ◌≡◌ {A = ℕ} 0 1 = cc in omega arith)
            go x false h = refl

        module _ (q : not b ≡ false) (l : Bool) (long-is : l ≡ automata.too_long (pairs_in p) (config_as used r.config).leftovers) where
          count_pairs : length (pairs_as p.pairs) ≡ used
          count_pairs = length-map (take used p.pairs.pairs) pair_as ∙ length-take-le used p.pairs.pairs (omega (arith, used_four, o.explorable.four_pairs))

          -- what is offered, by whether it is too long
          offered_by : (states : List ℕ) (a : Arc ℕ) → Explorable p states arcs (length w) → HoldsClosing (tables_in p states arcs) p.room.delays p.counts.states w
              → get_elem? (table_in p states arcs).arcs j ≡ some a
              → if l late (to (config_as used r.config)) ≡ offer (pairs_in p) (viable_in p states arcs) (config_as used c) a
          offered_by states a ex hc g =
              ap (λ (y : Bool). if y late (to (config_as used r.config))) long-is
              ∙ go rest b q ∙ ap (λ (y : Bool). if y rest nothing) (tested states ex hc)
              ∙ ap (offer_to (pairs_in p) (viable_in p states arcs)) (sym (followed_some states a ex g)) ∙ offer-to states a ex g
            where
              rest : Offer automata.Config
              rest = if (automata.too_long (pairs_in p) (config_as used r.config).leftovers) late (to (config_as used r.config))

              go : (z : Offer automata.Config) (y : Bool) → not y ≡ false → z ≡ if y z nothing
              go x true h = refl
              go x false h = absurd (let z : ◌≡◌ {A = ℕ} 0 1 = cc in omega arith)

          -- a step that is too long
          pub offers_late : l ≡ true → Offers p c arcs j w (record { kind = Late; config = r.config })
          offers_late z = record {
            good = f.good;
            stored = λ k. absurd (let z : ◌≡◌ {A = ℕ} 0 1 = cc in omega arith);
            meaning = λ states a ex hc g. ap (λ (y : Bool). if y late (to (config_as used r.config))) (sym z) ∙ offered_by states a ex hc g;
          }

          -- a successor
          pub offers_to : l ≡ false → Offers p c arcs j w (record { kind = To; config = r.config })
          offers_to z = record {
            good = f.good;
            stored = λ k. stored_form used p.counts.states r.config used_four f.good state_fits
                (not_long used (pairs_in p) r.config used_four f.good count_pairs o.explorable.within_limits (sym long-is ∙ z));
            meaning = λ states a ex hc g. ap (λ (y : Bool). if y late (to (config_as used r.config))) (sym z) ∙ offered_by states a ex hc g;
          }
