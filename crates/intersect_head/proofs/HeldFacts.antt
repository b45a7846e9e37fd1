-- What entering a configuration and noting an edge leave of the work space, and that the search stays held.
use Prim.Native.Nat.{ℕ, ◌+◌, ◌*◌, ◌≤◌, ◌<◌}
use mathlib.Core.Path.{◌≡◌, refl, sym, ap, ◌∙◌, subst}
use mathlib.Core.Bool.{Bool}
use mathlib.Core.List.{List, [], ◌∷◌, ◌++◌}
use native.Mathlib.Omega.{arith}
use lib.ListN.{length, get_or}
use Rattle.automata.specs.Automaton.{Arc}
use Rattle.automata.specs.Config as automata
use Rattle.automata.specs.Config.{same_config}
use Rattle.automata.specs.Explore.{Edge, insert}
use Rattle.automata.proofs.ListFacts
use Rattle.automata.proofs.WellFormedFacts.{all-place}
use Rattle.automata.proofs.Configurations.{configs_decided}
use Rattle.automata.specs.Layout.{config_size, delays_size, step_size}
use Rattle.table.specs.Region.{part, splice}
use Rattle.table.specs.Answers.{lent}
use Rattle.search_rows.specs.declared.Reached.{Reached}
use Rattle.table.proofs.RegionFacts.{get_d_part, part-splice_before, part-splice_after}
use Rattle.search_rows.specs.declared.Entered.{Entered}
use Rattle.search_rows.specs.declared.Entered.TheVariants as E
use Rattle.search_rows.specs.Kept.{stored_within}
use Rattle.search_rows.proofs.CodeFacts.{all_insert}
use Rattle.search_rows.proofs.KeptFacts.{kept_cases}
use Rattle.search_rows.proofs.SearchFacts.{count_more}
use Rattle.search_chains.specs.Chain.{record_at, Chained}
use Rattle.search_chains.specs.Parts.{part_start, part_size, Agrees}
use Rattle.search_chains.specs.Inserted.{Inserted}
use Rattle.search_chains.proofs.FrontFacts.{fronts_same}
use Rattle.search_chains.proofs.EntryFacts.{chained_kept}
use Rattle.search_chains.proofs.Meaning.{Entering, inserted_at, inserted_new, not_inserted, code_at}
use Rattle.intersect_config.specs.Configs.{Config, config_as, GoodConfig, config_bytes, row_size}
use Rattle.intersect_config.proofs.RoundFacts.{length_config}
use Rattle.delays.proofs.KeptFacts.{holds_part}
use Rattle.delays.proofs.TestFacts.{length_closings}
use Rattle.intersect_edges.specs.Edges.{edge_bytes, record_of}
use Rattle.intersect_edges.proofs.EdgeFacts.{length_edge, holds_kept, holds_more, holds_beyond}
use Rattle.intersect_offers.specs.declared.plan.Plan.{Plan}
use Rattle.intersect_head.specs.declared.head.Head.{Head}
use Rattle.intersect_offers.specs.Held.{config_of, row_of}
use Rattle.intersect_offers.specs.Plans.{Explorable, tables_in, StoredIn}
use Rattle.intersect_head.specs.Searching.{shape_of, bucket_by, EntersConfig, counted, ConfigSearch, Holds}
use Rattle.intersect_offers.proofs.FormFacts.{form_back, rows_tell}
use Rattle.intersect_head.proofs.AgreeFacts.{row_shaped, config_row_of, same_configs}

-- ---- what is held

-- at most four closings
pub few_closings : (p : Plan) (states arcs : List ℕ) (size : ℕ) → Explorable p states arcs size → length (tables_in p states arcs).closings ≤ 4
few_closings p states arcs size x =
    let l = length_closings (lent p.counts states arcs) p.pairs (omega (arith, x.named.used_fit, x.four_pairs)) in
    omega (arith, l, x.named.used_fit)

-- ---- a configuration is entered

module _ (p : Plan) (h : Head) (d : Config) (v : List ℕ) (good : GoodConfig p.pairs.used d) (may : StoredIn p (config_as p.pairs.used d))
    (states arcs : List ℕ) (s : ConfigSearch) (late : Bool) (x : Explorable p states arcs (length v)) (o : Holds p states arcs h s late v) where
  abbrev room : ℕ
  room = p.room.states

  abbrev used : ℕ
  used = p.pairs.used

  abbrev c : automata.Config
  c = config_as used d

  -- the list with the configuration
  abbrev more : List automata.Config
  more = insert same_config s.vertices c

  abbrev After : Entered → List ℕ → Type 0
  After r w = EntersConfig h.reached room used d v r w

  abbrev hash : List ℕ → ℕ
  hash = bucket_by used room

  row_is : config_bytes d ≡ row_of c
  unfolding row_of
  row_is = ap (λ (y : Config). config_bytes y) (sym (form_back used d x.named.used_fit good))

  size_is : length (config_bytes d) ≡ row_size
  size_is = length_config used d good

  -- a record that agrees with it is the same
  agreeing : (k : ℕ) → k < h.reached → Agrees (shape_of used) (k * config_size) (config_bytes d) v → record_at config_size (length (config_bytes d)) k v ≡ config_bytes d
  unfolding row_of
  agreeing k b f =
      let y = ListFacts.place_exists s.vertices k (omega (arith, b, o.reached)) in
      let m : StoredIn p y.0 = all-place (StoredIn p) s.vertices o.stored k y.0 y.1 in
      let r : part (k * config_size) row_size v ≡ config_bytes (config_of y.0) = code_at row_of config_size row_size s.vertices v k y.0 o.configs y.1 in
      let e : config_of y.0 ≡ d = same_configs used (config_of y.0) d x.named.used_fit m.form good (λ q c i l u.
      let w : i < row_size = inside q c i u in
      ap (λ (z : List ℕ). get_or z i 0) (sym r) ∙ get_d_part (k * config_size) row_size v i 0 w ∙ f q c i l u) in
      ap (λ (n : ℕ). record_at config_size n k v) size_is ∙ r ∙ ap config_bytes e
    where
      inside : (q : ℕ) → q < 1 + used → (i : ℕ) → i < part_start (shape_of used) q + part_size (shape_of used) q (config_bytes d) → i < row_size
      inside q c i u = let t = row_shaped used (config_bytes d) (config_row_of used d good) x.named.used_fit q c in omega (arith, t, u, size_is)

  -- it may be entered
  may_enter : Entering row_of same_config hash config_size row_size room (shape_of used) h.reached (hash (config_bytes d)) s.vertices c (config_bytes d) v
  may_enter = record {
    sized = size_is;
    held = o.configs;
    tells = rows_tell used p.counts.states c s.vertices may o.stored;
    reflexive = configs_decided.complete c;
    few = o.fits;
    count_is = o.reached;
    bytes_are = row_is;
    searchable = record {
      chained = subst (λ (n : ℕ). Chained hash config_size n room h.reached v) (sym size_is) (subst (λ (n : ℕ). Chained hash config_size row_size room n v) (sym o.reached) o.chained);
      hashed = refl;
      agreeing = agreeing;
    };
  }

  pub was_at : (n : Reached) (w : List ℕ) → After (E.At n) w → Inserted row_of same_config (bucket_by p.pairs.used p.room.states) config_size row_size p.room.states s.vertices c v w n × (h.reached ≡ length more)
  was_at n w t = inserted_at may_enter n w t

  pub was_new : (n : Reached) (w : List ℕ) → After (E.New n) w → Inserted row_of same_config (bucket_by p.pairs.used p.room.states) config_size row_size p.room.states s.vertices c v w n × (h.reached + 1 ≡ length more)
  was_new n w t = inserted_new may_enter n w t

  pub was_full : (w : List ℕ) → After E.Full w → room < length more
  was_full w t = not_inserted may_enter w t

  module _ (n : Reached) (w : List ℕ) (k : ℕ) (i : Inserted row_of same_config (bucket_by p.pairs.used p.room.states) config_size row_size p.room.states s.vertices c v w n × (k ≡ length more)) where
    beyond : (a m : ℕ) → p.room.edges ≤ a → part a m w ≡ part a m v
    beyond a m l = i.0.kept a m (omega (arith, x.configs_fit, l))

    -- the search with the configuration is held
    pub inserted_held : Holds p states arcs (record { taken = h.taken; reached = k; arcs = h.arcs; late = h.late; full = h.full })
        (record { vertices = more; edges = s.edges }) late w
    inserted_held = record {
      configs = i.0.held;
      chained = i.0.chained;
      edges = holds_kept p.room.edges p.room.arcs s.edges v w beyond o.edges;
      closing = holds_part (tables_in p states arcs) p.room.delays p.counts.states w v (few_closings p states arcs (length v) x)
          (beyond p.room.delays (delays_size * p.counts.states) (omega (arith, x.edges_fit))) o.closing;
      reached = i.1;
      fits = i.0.fits;
      arc_count = o.arc_count;
      late_is = o.late_is;
      not_full = o.not_full;
      stored = all_insert same_config (StoredIn p) s.vertices c o.stored may;
    }

-- ---- an edge is noted

module _ (p : Plan) (states arcs : List ℕ) (size : ℕ) (x : Explorable p states arcs size) (h : Head) (s : ConfigSearch) (late : Bool) (w : List ℕ) (lw : length w ≡ size)
    (o : Holds p states arcs h s late w) (e : Edge (ℕ × Arc ℕ)) (from-fits : e.from < 1024) (arc_fits : e.label.0 < 8192) (to-fits : e.to ≤ length s.vertices) where
  abbrev place : ℕ
  place = p.room.edges + step_size * h.arcs

  abbrev longer : ConfigSearch
  longer = record { vertices = s.vertices; edges = s.edges ++ (e ∷ []) }

  -- the rows stand before it
  before : h.arcs < p.room.arcs → (a n : ℕ) → a + n ≤ p.room.states * config_size → part a n (splice place (edge_bytes (record_of e)) w) ≡ part a n w
  before l a n b = part-splice_before a n place (edge_bytes (record_of e)) w (omega (arith, x.configs_fit, b)) (omega (arith, x.edges_fit, x.delays_fit, lw, l))

  -- the head counts it whether there is room or not
  pub edge_held : (u : List ℕ) → u ≡ stored_within p.room.edges p.room.arcs h.arcs (edge_bytes (record_of e)) w → Holds p states arcs (counted h) longer late u
  edge_held u k = kept_cases p.room.edges p.room.arcs h.arcs (edge_bytes (record_of e)) w u k (λ z. Holds p states arcs (counted h) longer late z)
      (λ l. record {
        configs = fronts_same 0 config_size row_size (length s.vertices) w _ (λ i b. before l (0 + i * config_size) row_size (omega (arith, o.fits, b))) ∙ o.configs;
        chained = chained_kept (bucket_by p.pairs.used p.room.states) config_size row_size p.room.states (length s.vertices) w _ (omega arith) o.fits (before l) o.chained;
        edges = holds_more p.room.edges p.room.arcs s.edges e w _
            (record { from = omega arith; arc = omega arith; to = omega (arith, to-fits, o.fits, x.few_states) })
            (omega (arith, o.arc_count, l)) (omega (arith, x.edges_fit, x.delays_fit, lw))
            (ap (λ (z : ℕ). splice (p.room.edges + step_size * z) (edge_bytes (record_of e)) w) o.arc_count) o.edges;
        closing = holds_part (tables_in p states arcs) p.room.delays p.counts.states _ w (few_closings p states arcs size x)
            (part-splice_after p.room.delays (delays_size * p.counts.states) place (edge_bytes (record_of e)) w
            (omega (arith, length_edge (record_of e), x.edges_fit, l)) (omega (arith, length_edge (record_of e), x.edges_fit, x.delays_fit, lw, l))) o.closing;
        reached = o.reached;
        fits = o.fits;
        arc_count = count_more h.arcs s.edges e o.arc_count;
        late_is = o.late_is;
        not_full = o.not_full;
        stored = o.stored;
      })
      (λ l. record {
        configs = o.configs;
        chained = o.chained;
        edges = holds_beyond p.room.edges p.room.arcs s.edges (e ∷ []) w (omega (arith, o.arc_count, l)) o.edges;
        closing = o.closing;
        reached = o.reached;
        fits = o.fits;
        arc_count = count_more h.arcs s.edges e o.arc_count;
        late_is = o.late_is;
        not_full = o.not_full;
        stored = o.stored;
      })
