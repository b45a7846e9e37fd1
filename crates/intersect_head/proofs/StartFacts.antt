-- The configurations in which paths start, from what the calls answer and leave.
use Prim.Native.Nat.{ℕ, ◌+◌, ◌*◌, ◌≤◌, ◌<◌}
use mathlib.Core.Path.{◌≡◌, refl, sym, ap, ap₂, ◌∙◌, subst}
use mathlib.Core.Bool.{Bool, true, false, not}
use mathlib.Core.Option.{Option, none, some}
use mathlib.Core.List.{List, [], ◌∷◌, map}
use native.Mathlib.Omega.{arith}
use lib.Dec.{eqb, ltb}
use lib.ListN.{length, get_or, get_elem?, take, drop, length-map}
use lib.Seq.{get_or-take, get_or-drop, length-take-le}
use borrow.Author.Tests.{eq-eqb, ne_eqb}
use Rattle.automata.specs.Lists.{and, guard, is_some, cons_maybe}
use Rattle.automata.specs.Automaton.{State}
use Rattle.automata.specs.TapePair.{TapePair}
use Rattle.automata.specs.Leftover as leftover
use Rattle.automata.specs.Config as automata
use Rattle.automata.specs.Config.{same_config}
use Rattle.automata.specs.Memory.{Memory, flag, table_of}
use Rattle.automata.specs.Explore.{insert}
use Rattle.automata.proofs.ListFacts
use Rattle.automata.proofs.TestFacts
use Rattle.automata.proofs.MemoryFacts.{state_field}
use Rattle.automata.proofs.SoundFacts.{sound_well_formed, sound_holds, sound_states_lent}
use Rattle.automata.specs.Layout.{delays_size, state_size}
use Rattle.table.specs.Answers.{lent}
use Rattle.table.specs.Pairs.{pair_as, pairs_as}
use Rattle.search_rows.specs.declared.Reached.{Reached}
use Rattle.search_rows.specs.declared.Entered.{Entered}
use Rattle.search_rows.specs.declared.Entered.TheVariants as E
use Rattle.search_rows.proofs.ProgressFacts.{widens_none}
use Rattle.intersect_config.specs.Configs.{Config, config_as, GoodConfig, Starts}
use Rattle.delays.specs.ClosingRegion.{HoldsClosing}
use Rattle.delays.proofs.TestFacts.{length_closings}
use Rattle.intersect_offers.specs.declared.plan.Plan.{Plan}
use Rattle.intersect_head.specs.declared.head.Head.{Head}
use Rattle.intersect_offers.specs.Plans.{Explorable, table_in, pairs_in, tables_in, viable_in}
use Rattle.intersect_offers.specs.Offers.{TellsViable}
use Rattle.intersect_head.specs.Searching.{EntersConfig, progress, Comes}
use Rattle.intersect_head.specs.Starting.{with_configs, Admittable, Admits, start_by, Startable, Enters}
use Rattle.intersect_offers.proofs.FormFacts.{stored_form, not_long}
use Rattle.intersect_head.proofs.HeldFacts.{was_at, was_new, was_full, inserted_held}
use Rattle.intersect_head.proofs.VisitFacts.{with_reached}

-- ---- a configuration is entered

module _ (p : Plan) (h : Head) (d : Config) (v : List ℕ) (q : Admittable p h d v) (r : Entered) (w : List ℕ)
    (t : EntersConfig h.reached p.room.states p.pairs.used d v r w) where
  -- what is reached is within the room
  reached_fits : h.reached ≤ p.room.states
  reached_fits = omega (arith, q.holds.reached, q.holds.fits)

  pub admits_at : (n : Reached) → r ≡ E.At n → Admits p h d v h w
  admits_at n z =
      let t2 = subst (λ (y : Entered). EntersConfig h.reached p.room.states p.pairs.used d v y w) z t in
      record {
        widens = record { taken = refl; arcs = refl; fits = reached_fits; same_length = (was_at p h d v q.good q.stored q.states q.arcs q.search q.late q.explorable q.holds n w t2).0.same_length };
        meaning = λ states arcs s l x o. record {
          held = λ f. inserted_held p h d v q.good q.stored states arcs s l x o n w h.reached (was_at p h d v q.good q.stored states arcs s l x o n w t2);
          over = λ f. TestFacts.false_not_true o.not_full f;
        };
      }

  pub admits_new : (n : Reached) → r ≡ E.New n → Admits p h d v (with_reached (h.reached + 1) h) w
  admits_new n z =
      let t2 = subst (λ (y : Entered). EntersConfig h.reached p.room.states p.pairs.used d v y w) z t in
      record {
        widens = record { taken = refl; arcs = refl; fits = let b = t2.fits in omega (arith, b); same_length = (was_new p h d v q.good q.stored q.states q.arcs q.search q.late q.explorable q.holds n w t2).0.same_length };
        meaning = λ states arcs s l x o. record {
          held = λ f. inserted_held p h d v q.good q.stored states arcs s l x o n w (h.reached + 1) (was_new p h d v q.good q.stored states arcs s l x o n w t2);
          over = λ f. TestFacts.false_not_true o.not_full f;
        };
      }

  pub admits_full : r ≡ E.Full → Admits p h d v (record { taken = h.taken; reached = h.reached; arcs = h.arcs; late = h.late; full = true }) w
  admits_full z =
      let t2 = subst (λ (y : Entered). EntersConfig h.reached p.room.states p.pairs.used d v y w) z t in
      record {
        widens = record { taken = refl; arcs = refl; fits = reached_fits; same_length = t2.same_length };
        meaning = λ states arcs s l x o. record {
          held = λ f. TestFacts.false_not_true f refl;
          over = λ f. was_full p h d v q.good q.stored states arcs s l x o w t2;
        };
      }

-- ---- a state of the table read

flag_is : (o : Option ℕ) → is_some o ≡ eqb (flag o).0 1
flag_is none = refl
flag_is (some w) = refl

module _ (p : Plan) (states arcs : List ℕ) (size : ℕ) (x : Explorable p states arcs size) where
  abbrev m : Memory
  m = lent p.counts states arcs

  pub state_count : length (table_in p states arcs).states ≡ p.counts.states
  state_count = sym (sound_holds m x.sound).states

  pub states_few : p.counts.states ≤ 1024
  states_few = omega (arith, state_count, (sound_well_formed m x.sound).counts.states_fit)

  pub states_lent : state_size * p.counts.states ≤ length states
  states_lent = sound_states_lent m x.sound

  -- whether it has an initial weight, by the first byte of its record
  initial_is : (q : ℕ) (a : State ℕ) → get_elem? (table_in p states arcs).states q ≡ some a → is_some a.initial ≡ eqb (get_or states (state_size * q) 0) 1
  initial_is q a e =
      let d : State ℕ = record { initial = none; final = none } in
      let t = table_of m in
      let c : q < p.counts.states = let b = ListFacts.place_bound t.states q e in omega (arith, state_count) in
      let y : state_size * q ≡ q * state_size + 0 + 0 = omega arith in
      let g : get_or states (state_size * q) 0 ≡ (flag (get_or t.states q d).initial).0
      = ap (λ (k : ℕ). get_or states k 0) y ∙ sym (get_or-drop (q * state_size + 0) states 0 0) ∙ sym (get_or-take 1 (drop (q * state_size + 0) states) 0 0 (omega arith))
      ∙ ap (λ (z : List ℕ). get_or z 0 0) (state_field m t (sound_well_formed m x.sound) (sound_holds m x.sound) q d c 0 1 (omega arith)) in
      flag_is a.initial ∙ ap (λ (z : State ℕ). eqb (flag z.initial).0 1) (sym (ListFacts.place_default t.states q d e)) ∙ ap (λ (k : ℕ). eqb k 1) (sym g)

-- no leftover of a start is too long
start-short : (ps : List TapePair) → automata.too_long ps (map (λ p. leftover.nothing) ps) ≡ false
start-short [] = refl
start-short (p ∷ ps) = let e : ltb p.limit 0 ≡ false = TestFacts.ltb_of_le {m = p.limit} {n = 0} (omega arith) in rw (e, start-short ps)

module _ (p : Plan) (h : Head) (states : List ℕ) (q : ℕ) (v : List ℕ) (k : Startable p h states q v) where
  abbrev used : ℕ
  used = p.pairs.used

  pub state-lent : state_size * q + state_size ≤ length states
  state-lent = omega (arith, states_lent p states k.arcs (length v) k.explorable, k.state_fits)

  pub state_small : q < 1024
  state_small = omega (arith, states_few p states k.arcs (length v) k.explorable, k.state_fits)

  -- nothing is entered
  starts_none : ((arcs : List ℕ) (a : State ℕ) → Explorable p states arcs (length v) → HoldsClosing (tables_in p states arcs) p.room.delays p.counts.states v
      → get_elem? (table_in p states arcs).states q ≡ some a → start_by (pairs_in p) (viable_in p states arcs) (q, a) ≡ none) → Enters p h states q v h v
  starts_none f = record {
    widens = widens_none p.room.states (progress h) v (omega (arith, k.holds.reached, k.holds.fits));
    meaning = λ arcs s l a x o e.
        subst (λ (z : Option automata.Config). Comes p states arcs h (with_configs s (cons_maybe z [])) l v) (sym (f arcs a x o.closing e))
        (record { held = λ n. o; over = λ n. TestFacts.false_not_true o.not_full n });
  }

  -- no path starts in it
  pub starts_not : (get_or states (state_size * q) 0 ≡ 1 → ⊥) → Enters p h states q v h v
  starts_not n = starts_none (λ arcs a x hc e.
      let i : is_some a.initial ≡ false = initial_is p states arcs (length v) x q a e ∙ ne_eqb (get_or states (state_size * q) 0) 1 n in
      let c = automata.start_at (pairs_in p) q in
      ap (λ (z : Bool). guard (and z (viable_in p states arcs c)) (some c)) i)

  module _ (one : get_or states (state_size * q) 0 ≡ 1) (d : Config) (st : Starts q d) where
    count_pairs : length (pairs_as p.pairs) ≡ used
    count_pairs = length-map (take used p.pairs.pairs) pair_as
        ∙ length-take-le used p.pairs.pairs (omega (arith, k.explorable.named.used_fit, k.explorable.four_pairs))

    start_is : config_as used d ≡ automata.start_at (pairs_in p) q
    start_is = ap (λ (n : ℕ). config_as n d) (sym count_pairs) ∙ st.meaning (pairs_in p) (omega (arith, count_pairs, k.explorable.named.used_fit))

    start-state : d.state.0 ≡ q
    start-state = ap (λ (z : automata.Config). z.state) start_is

    start_good : GoodConfig used d
    start_good = st.good used

    pub start_fits : (used ≤ 4) × (GoodConfig used d) × (p.room.delays + delays_size * d.state.0 + delays_size ≤ length v)
    start_fits = (k.explorable.named.used_fit, start_good, omega (arith, start-state, k.state_fits, k.explorable.delays_fit))

    pub may_admit : Admittable p h d v
    may_admit = record {
      states = states;
      arcs = k.arcs;
      search = k.search;
      late = k.late;
      explorable = k.explorable;
      holds = k.holds;
      good = start_good;
      stored = stored_form used p.counts.states d k.explorable.named.used_fit start_good (omega (arith, start-state, k.state_fits))
          (not_long used (pairs_in p) d k.explorable.named.used_fit start_good count_pairs k.explorable.within_limits
          (ap (λ (z : automata.Config). automata.too_long (pairs_in p) z.leftovers) start_is ∙ start-short (pairs_in p)));
    }

    module _ (b : Bool) (t : TellsViable p.room.delays used d v b) where
      tested : (arcs : List ℕ) → Explorable p states arcs (length v) → HoldsClosing (tables_in p states arcs) p.room.delays p.counts.states v
          → b ≡ viable_in p states arcs (automata.start_at (pairs_in p) q)
      tested arcs x hc =
          t (tables_in p states arcs) p.counts.states hc x.delays_fit (omega (arith, start-state, k.state_fits))
          (length_closings (lent p.counts states arcs) p.pairs (omega (arith, x.named.used_fit, x.four_pairs)))
          ∙ ap (viable_in p states arcs) start_is

      start_by_lem : (arcs : List ℕ) (a : State ℕ) → Explorable p states arcs (length v) → HoldsClosing (tables_in p states arcs) p.room.delays p.counts.states v
          → get_elem? (table_in p states arcs).states q ≡ some a
          → start_by (pairs_in p) (viable_in p states arcs) (q, a) ≡ guard b (some (automata.start_at (pairs_in p) q))
      start_by_lem arcs a x hc e =
          let i : is_some a.initial ≡ true = initial_is p states arcs (length v) x q a e ∙ eq-eqb (get_or states (state_size * q) 0) 1 one in
          let c = automata.start_at (pairs_in p) q in
          ap₂ (λ (y z : Bool). guard (and y z) (some c)) i (sym (tested arcs x hc))

      -- it is not viable
      pub starts_blocked : not b ≡ true → Enters p h states q v h v
      starts_blocked n = starts_none (λ arcs a x hc e. start_by_lem arcs a x hc e ∙ go b n)
        where
          go : (y : Bool) → not y ≡ true → guard y (some (automata.start_at (pairs_in p) q)) ≡ none
          go true n = absurd (let z : ◌≡◌ {A = ℕ} 0 1 = cc in omega arith)
          go false n = refl

      -- it is entered
      pub starts_there : not b ≡ false → (r : Head) (w : List ℕ) → Admits p h d v r w → Enters p h states q v r w
      starts_there n r w y = record {
        widens = y.widens;
        meaning = λ arcs s l a x o e.
            subst (λ (z : Option automata.Config). Comes p states arcs r (with_configs s (cons_maybe z [])) l w) (sym (start_by_lem arcs a x o.closing e ∙ go b n))
            (subst (λ (z : automata.Config). Comes p states arcs r (record { vertices = insert same_config s.vertices z; edges = s.edges }) l w) start_is (y.meaning states arcs s l x o));
      }
        where
          go : (y : Bool) → not y ≡ false → guard y (some (automata.start_at (pairs_in p) q)) ≡ some (automata.start_at (pairs_in p) q)
          go true n = refl
          go false n = absurd (let z : ◌≡◌ {A = ℕ} 0 1 = cc in omega arith)
