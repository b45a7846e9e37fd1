-- What an arc comes to, from what the calls answer and leave.
use Prim.Native.Nat.{ℕ, ◌+◌, ◌≤◌, ◌<◌}
use mathlib.Core.Path.{◌≡◌, refl, sym, ap, ◌∙◌, subst}
use mathlib.Core.Bool.{Bool, true, false}
use mathlib.Core.Option.{some}
use mathlib.Core.List.{List, [], ◌∷◌, ◌++◌}
use native.Mathlib.Omega.{arith}
use lib.ListN.{length, get_elem?}
use Rattle.automata.specs.Lists.{or}
use Rattle.automata.specs.Automaton.{Arc}
use Rattle.automata.specs.Config as automata
use Rattle.automata.specs.Config.{same_config}
use Rattle.automata.specs.Explore.{insert, index_of}
use Rattle.automata.specs.Offer.{Offer, is_late, offer}
use Rattle.automata.specs.Search.{note}
use Rattle.automata.proofs.TestFacts
use Rattle.automata.proofs.AppendFacts.{or-none}
use Rattle.automata.proofs.SoundFacts.{sound_well_formed}
use Rattle.automata.specs.Layout.{config_size}
use Rattle.table.specs.Answers.{lent}
use Rattle.search_rows.specs.declared.Reached.{Reached}
use Rattle.search_rows.specs.declared.Entered.{Entered}
use Rattle.search_rows.specs.declared.Entered.TheVariants as E
use Rattle.search_rows.specs.Kept.{stored_within}
use Rattle.search_rows.proofs.ProgressFacts.{grows_none}
use Rattle.search_rows.proofs.CodeFacts.{index_bound}
use Rattle.search_rows.proofs.KeptFacts.{kept_length}
use Rattle.search_chains.specs.Inserted.{Inserted}
use Rattle.intersect_config.specs.Configs.{Config, config_as, row_size}
use Rattle.intersect_edges.specs.declared.edge.EdgeRecord.{EdgeRecord}
use Rattle.intersect_edges.specs.Edges.{edge_bytes}
use Rattle.intersect_edges.proofs.EdgeFacts.{length_edge}
use Rattle.intersect_offers.specs.declared.plan.Plan.{Plan}
use Rattle.intersect_head.specs.declared.head.Head.{Head}
use Rattle.intersect_offers.specs.declared.offer.Kind.{Kind}
use Rattle.intersect_offers.specs.declared.offer.Kind.TheVariants.{Nothing, Late, To}
use Rattle.intersect_offers.specs.Held.{row_of}
use Rattle.intersect_offers.specs.Plans.{Explorable, table_in, pairs_in, viable_in}
use Rattle.intersect_offers.specs.Offers.{Offered, offer_by, Offers}
use Rattle.intersect_head.specs.Searching.{bucket_by, EntersConfig, progress, counted, ConfigSearch, Holds, Comes, Arrivable, Arrives, note_offer, Visitable, Visits}
use Rattle.intersect_offers.proofs.OfferFacts.{arc_count}
use Rattle.intersect_head.proofs.HeldFacts.{was_at, was_new, was_full, inserted_held, edge_held}

-- a head with so many configurations
abbrev pub with_reached : ℕ → Head → Head
with_reached k h = record { taken = h.taken; reached = k; arcs = h.arcs; late = h.late; full = h.full }

-- the record of the edge that is noted
abbrev pub noted : Head → ℕ → Reached → EdgeRecord
noted h j n = record { from = record { 0 = h.taken }; arc = j; to = n }

-- ---- a successor is entered

module _ (p : Plan) (h : Head) (d : Config) (j : ℕ) (v : List ℕ) (q : Arrivable p h d j v) where
  abbrev c : automata.Config
  c = config_as p.pairs.used d

  -- what is reached is within the room
  reached_fits : h.reached ≤ p.room.states
  reached_fits = omega (arith, q.holds.reached, q.holds.fits)

  -- it was inserted as number n, whatever search was held, which then has k configurations
  abbrev Enters : ℕ → Reached → List ℕ → Type 0
  Enters k n w = (states arcs : List ℕ) (s : ConfigSearch) (late : Bool) → Explorable p states arcs (length v) → Holds p states arcs h s late v
      → Inserted row_of same_config (bucket_by p.pairs.used p.room.states) config_size row_size p.room.states s.vertices c v w n × (k ≡ length (insert same_config s.vertices c))

  arrives_noted : (k : ℕ) (n : Reached) (w : List ℕ) → h.reached ≤ k → k ≤ p.room.states → Enters k n w → (g : Head) (u : List ℕ)
      → (g ≡ counted (with_reached k h)) × (u ≡ stored_within p.room.edges p.room.arcs h.arcs (edge_bytes (noted h j n)) w) → Arrives p h d j v g u
  unfolding note
  arrives_noted k n w l b enters g u e = record {
    grows = record {
      taken = ap (λ (z : Head). z.taken) e.0;
      grown = let z : g.reached ≡ k = ap (λ (z : Head). z.reached) e.0 in omega arith;
      fits = let z : g.reached ≡ k = ap (λ (z : Head). z.reached) e.0 in omega arith;
      few = let z : g.arcs ≡ h.arcs + 1 = ap (λ (z : Head). z.arcs) e.0 in omega arith;
      same_length =
          let i = (enters q.states q.arcs q.search q.late q.explorable q.holds).0 in
          let x = q.explorable in
          let y = i.same_length in
          kept_length p.room.edges p.room.arcs h.arcs (edge_bytes (noted h j n)) w u e.1 (omega (arith, length_edge (noted h j n))) (omega (arith, y, x.edges_fit, x.delays_fit)) ∙ y;
    };
    meaning = λ states arcs s late a x o.
        let i = enters states arcs s late x o in
        let more : List automata.Config = insert same_config s.vertices c in
        let at : ℕ = index_of same_config c more in
        let o1 = inserted_held p h d v q.good q.stored states arcs s late x o n w k i in
        let b : at ≤ length more = index_bound same_config c more in
        let m : u ≡ stored_within p.room.edges p.room.arcs h.arcs (edge_bytes (noted h j (record { 0 = at }))) w
        = e.1 ∙ ap (λ (z : ℕ). stored_within p.room.edges p.room.arcs h.arcs (edge_bytes (noted h j (record { 0 = z }))) w) i.0.number in
        let o2 = edge_held p states arcs (length v) x (with_reached k h) (record { vertices = more; edges = s.edges }) late w i.0.same_length o1
        (record { from = h.taken; label = (j, a); to = at }) q.taken_fits q.arc_fits b u m in
        record {
          held = λ f. subst (λ (z : Head). Holds p states arcs z (record { vertices = more; edges = s.edges ++ (record { from = h.taken; label = (j, a); to = at } ∷ []) }) late u) (sym e.0) o2;
          over = λ f. TestFacts.false_not_true (ap (λ (z : Head). z.full) e.0 ∙ o.not_full) f;
        };
  }

  module _ (r : Entered) (w : List ℕ) (t : EntersConfig h.reached p.room.states p.pairs.used d v r w) where
    -- it was there already
    pub arrives_at : (n : Reached) → r ≡ E.At n → (g : Head) (u : List ℕ)
        → (g ≡ counted h) × (u ≡ stored_within p.room.edges p.room.arcs h.arcs (edge_bytes (noted h j n)) w) → Arrives p h d j v g u
    arrives_at n z = arrives_noted h.reached n w (omega arith) reached_fits
        (λ states arcs s late x o.
        let t2 = subst (λ (y : Entered). EntersConfig h.reached p.room.states p.pairs.used d v y w) z t in
        was_at p h d v q.good q.stored states arcs s late x o n w t2)

    -- it is new
    pub arrives_new : (n : Reached) → r ≡ E.New n → (g : Head) (u : List ℕ)
        → (g ≡ counted (with_reached (h.reached + 1) h)) × (u ≡ stored_within p.room.edges p.room.arcs h.arcs (edge_bytes (noted h j n)) w) → Arrives p h d j v g u
    arrives_new n z =
        let t2 = subst (λ (y : Entered). EntersConfig h.reached p.room.states p.pairs.used d v y w) z t in
        let b = t2.fits in
        arrives_noted (h.reached + 1) n w (omega arith) (omega (arith, b))
        (λ states arcs s late x o. was_new p h d v q.good q.stored states arcs s late x o n w t2)

    -- there is no room for it
    pub arrives_full : r ≡ E.Full → Arrives p h d j v (record { taken = h.taken; reached = h.reached; arcs = h.arcs; late = h.late; full = true }) w
    unfolding note
    arrives_full z =
        let t2 = subst (λ (y : Entered). EntersConfig h.reached p.room.states p.pairs.used d v y w) z t in
        record {
          grows = record { taken = refl; grown = omega arith; fits = reached_fits; few = omega arith; same_length = t2.same_length };
          meaning = λ states arcs s late a x o. record {
            held = λ f. TestFacts.false_not_true f refl;
            over = λ f. was_full p h d v q.good q.stored states arcs s late x o w t2;
          };
        }

-- ---- an arc is looked at

or-last : (b : Bool) → true ≡ or b true
or-last true = refl
or-last false = refl

module _ (p : Plan) (h : Head) (c : Config) (arcs : List ℕ) (j : ℕ) (v : List ℕ) (q : Visitable p h c arcs j v) (r : Offered) (f : Offers p c arcs j v r) where
  abbrev used : ℕ
  used = p.pairs.used

  -- what is reached is within the room
  reached-within : h.reached ≤ p.room.states
  reached-within = omega (arith, q.holds.reached, q.holds.fits)

  -- a successor may be entered
  pub may_arrive : r.kind ≡ To → Arrivable p h r.config j v
  may_arrive k =
      let x = q.explorable in
      let o = q.holds in
      let n : j < 8192 = omega (arith, q.arc_fits, arc_count p q.states arcs (length v) x j, (sound_well_formed (lent p.counts q.states arcs) x.sound).counts.arcs_fit) in
      let t : h.taken < 1024 = omega (arith, q.taken_fits, o.reached, o.fits, x.few_states) in
      record {
        states = q.states;
        arcs = arcs;
        search = q.search;
        late = q.late;
        explorable = x;
        holds = o;
        good = f.good;
        stored = f.stored k;
        arc_fits = n;
        taken_fits = t;
        few = omega (arith, q.few, n, t);
      }

  -- what is offered, by the kind
  offered_is : (k : Kind) → r.kind ≡ k → (states : List ℕ) (s : ConfigSearch) (l : Bool) (a : Arc ℕ) → Explorable p states arcs (length v) → Holds p states arcs h s l v
      → get_elem? (table_in p states arcs).arcs j ≡ some a
      → offer_by k (config_as used r.config) ≡ offer (pairs_in p) (viable_in p states arcs) (config_as used c) a
  offered_is k e states s l a x o g = ap (λ (z : Kind). offer_by z (config_as used r.config)) (sym e) ∙ f.meaning states a x o.closing g

  -- no step
  pub visits_nothing : r.kind ≡ Nothing → Visits p h c arcs j v h v
  visits_nothing e = record {
    grows = grows_none p.room.states 1 (progress h) v reached-within;
    meaning = λ states s l a x o g.
        subst (λ (z : Offer automata.Config). Comes p states arcs h (note_offer h.taken s (j, a) z) (or l (is_late z)) v) (offered_is Nothing e states s l a x o g)
        (record { held = λ n. subst (λ (b : Bool). Holds p states arcs h s b v) (sym (or-none l)) o; over = λ n. TestFacts.false_not_true o.not_full n });
  }

  abbrev late_head : Head
  late_head = record { taken = h.taken; reached = h.reached; arcs = h.arcs; late = true; full = h.full }

  -- a step that is too long
  pub visits_late : r.kind ≡ Late → Visits p h c arcs j v (record { taken = h.taken; reached = h.reached; arcs = h.arcs; late = true; full = h.full }) v
  visits_late e = record {
    grows = grows_none p.room.states 1 (progress h) v reached-within;
    meaning = λ states s l a x o g.
        subst (λ (z : Offer automata.Config). Comes p states arcs late_head (note_offer h.taken s (j, a) z) (or l (is_late z)) v) (offered_is Late e states s l a x o g)
        (record {
          held = λ n. record {
            configs = o.configs;
            chained = o.chained;
            edges = o.edges;
            closing = o.closing;
            reached = o.reached;
            fits = o.fits;
            arc_count = o.arc_count;
            late_is = or-last l;
            not_full = o.not_full;
            stored = o.stored;
          };
          over = λ n. TestFacts.false_not_true o.not_full n;
        });
  }

  -- a step to a successor
  pub visits_to : r.kind ≡ To → (g : Head) (w : List ℕ) → Arrives p h r.config j v g w → Visits p h c arcs j v g w
  visits_to e g w t = record {
    grows = t.grows;
    meaning = λ states s l a x o y.
        subst (λ (z : Offer automata.Config). Comes p states arcs g (note_offer h.taken s (j, a) z) (or l (is_late z)) w) (offered_is To e states s l a x o y)
        (subst (λ (b : Bool). Comes p states arcs g (note same_config h.taken s ((j, a), config_as used r.config)) b w) (sym (or-none l)) (t.meaning states arcs s l a x o));
  }
