-- The search in work space: when a head and the bytes hold a search of the definitions, and what each step comes to.
use Rattle.std.specs.Prelude.{◌≡◌, Bool, false, List, ℕ, zero, suc, ◌+◌, ◌*◌, ◌/◌, ◌≤◌, ◌<◌, length, get_or}
use Rattle.std.proofs.Math.Option.{some}
use Rattle.std.proofs.Math.ListN.{get_elem?}
use Rattle.automata.specs.Limits.{max_delay}
use Rattle.automata.specs.Lists.{All, or}
use Rattle.automata.specs.Automaton.{Arc}
use Rattle.automata.specs.Config as automata
use Rattle.automata.specs.Offer.{Offer, nothing, late, to, is_late, offer, late_up_to}
use Rattle.automata.specs.Search.{Search, note, note_all}
use Rattle.automata.specs.Intersect.{out}
use Rattle.automata.specs.Layout.{config_size}
use Rattle.search_rows.specs.declared.Entered.{Entered}
use Rattle.search_rows.specs.Comes as search-comes
use Rattle.search_rows.specs.Progress as search
use Rattle.search_chains.specs.Chain.{Chained, Enters}
use Rattle.search_chains.specs.Hash.{hash_from, bucket_of}
use Rattle.search_chains.specs.declared.Shape.{Shape}
use Rattle.intersect_config.specs.Leftovers.{outside, leftover_size}
use Rattle.intersect_config.specs.Configs.{Config, config_as, GoodConfig, config_bytes, config_at, Row, row_size}
use Rattle.delays.specs.ClosingRegion.{HoldsClosing}
use Rattle.intersect_edges.specs.Edges.{HoldsEdges}
use Rattle.intersect_offers.specs.declared.plan.Plan.{Plan}
use Rattle.intersect_head.specs.declared.head.Head.{Head}
use Rattle.intersect_offers.specs.Held.{HoldsConfigs}
use Rattle.intersect_offers.specs.Plans.{Explorable, table_in, pairs_in, tables_in, viable_in, StoredIn}

-- how the records of configurations of so many pairs are compared: the state, and of each leftover its side, its length
-- and its symbols
abbrev pub shape_of : ℕ → Shape
shape_of used = record { head = 2; pitch = leftover_size; parts = 1 + used }

-- the hash of the leftovers from a place on, begun with h: in words of eight bytes that hold side, length and symbols
unfoldable pub hash_slots : ℕ → ℕ → ℕ → List ℕ → ℕ
hash_slots zero at h row = h
hash_slots (suc n) at h row = hash_slots n (at + leftover_size) (hash_from ((get_or row (at + 1) 0 + 9) / 8) at h row) row

-- the hash of a record of so many pairs, and its bucket
abbrev pub row_hash : ℕ → List ℕ → ℕ
row_hash used row = hash_slots used 2 (hash_from 1 0 0 row) row

abbrev pub bucket_by : ℕ → ℕ → List ℕ → ℕ
bucket_by used room bytes = bucket_of room (row_hash used bytes)

-- the row is the record of a configuration of so many pairs, none of whose leftovers is longer than 64
pub record Enterable (used : ℕ) (row : List ℕ) : Type 0 where
  pub row_is : Row used row
  pub four : used ≤ 4
  pub short : (i : ℕ) → i < used → (get_or (config_at 0 row).leftovers i outside).len ≤ max_delay

-- the configuration c of so many pairs was entered among those reached
abbrev pub EntersConfig : ℕ → ℕ → ℕ → Config → List ℕ → Entered → List ℕ → Type 0
EntersConfig reached room used c v r w = Enters config_size reached room (bucket_by used room (config_bytes c)) (shape_of used) (config_bytes c) v r w

-- how far the search is
abbrev pub progress : Head → search.Progress
progress h = record { taken = h.taken; reached = h.reached; arcs = h.arcs }

-- a head with one arc more
abbrev pub counted : Head → Head
counted h = record { taken = h.taken; reached = h.reached; arcs = h.arcs + 1; late = h.late; full = h.full }

-- a search of the definitions: the configurations found, and the edges noted by the numbers of their arcs
abbrev pub ConfigSearch : Type 0
ConfigSearch = Search automata.Config (ℕ × Arc ℕ)

-- The head and the work space w hold the search s and whether a step was too long, for the table in these bytes; every
-- configuration stands in the chain of its bucket, the delays are those of the table, and every configuration may be
-- stored.
pub record Holds (p : Plan) (states arcs : List ℕ) (h : Head) (s : ConfigSearch) (late : Bool) (w : List ℕ) : Type 0 where
  pub configs : HoldsConfigs s.vertices w
  pub chained : Chained (bucket_by p.pairs.used p.room.states) config_size row_size p.room.states (length s.vertices) w
  pub edges : HoldsEdges p.room.edges p.room.arcs s.edges w
  pub closing : HoldsClosing (tables_in p states arcs) p.room.delays p.counts.states w
  pub reached : h.reached ≡ length s.vertices
  pub fits : length s.vertices ≤ p.room.states
  pub arc_count : h.arcs ≡ length s.edges
  pub late_is : h.late ≡ late
  pub not_full : h.full ≡ false
  pub stored : All (StoredIn p) s.vertices

-- the head r and the work space w hold the search s, or the configurations are full and s has more of them than there
-- is room for
abbrev pub Comes : Plan → List ℕ → List ℕ → Head → ConfigSearch → Bool → List ℕ → Type 0
Comes p states arcs r s l w = search-comes.Comes r.full (Holds p states arcs r s l w) (p.room.states < length s.vertices)

-- the search went on to at most n arcs more, within the bounds
abbrev pub Grows : Plan → ℕ → Head → List ℕ → Head → List ℕ → Type 0
Grows p n h v r w = search.Grows p.room.states n (progress h) v (progress r) w

-- ---- one arc

-- a successor of the configuration that is taken up may be entered, by the arc with number j
pub record Arrivable (p : Plan) (h : Head) (d : Config) (j : ℕ) (w : List ℕ) : Type 0 where
  pub states : List ℕ
  pub arcs : List ℕ
  pub search : ConfigSearch
  pub late : Bool
  pub explorable : Explorable p states arcs (length w)
  pub holds : Holds p states arcs h search late w
  pub good : GoodConfig p.pairs.used d
  pub stored : StoredIn p (config_as p.pairs.used d)
  pub arc_fits : j < 8192
  pub taken_fits : h.taken < 1024
  pub few : h.arcs < 4294967296

-- it was entered, and the edge to it noted
pub record Arrives (p : Plan) (h : Head) (d : Config) (j : ℕ) (v : List ℕ) (r : Head) (w : List ℕ) : Type 0 where
  pub grows : Grows p 1 h v r w
  pub meaning : (states arcs : List ℕ) (s : ConfigSearch) (late : Bool) (a : Arc ℕ) → Explorable p states arcs (length v) → Holds p states arcs h s late v
      → Comes p states arcs r (note automata.same_config h.taken s ((j, a), config_as p.pairs.used d)) late w

-- the search after what an arc offers the configuration at place k
abbrev pub note_offer : ℕ → ConfigSearch → ℕ × Arc ℕ → Offer automata.Config → ConfigSearch
note_offer k s e nothing = s
note_offer k s e late = s
note_offer k s e (to d) = note automata.same_config k s (e, d)

-- the arc with number j may be looked at, for the configuration c that is taken up
pub record Visitable (p : Plan) (h : Head) (c : Config) (arcs : List ℕ) (j : ℕ) (w : List ℕ) : Type 0 where
  pub states : List ℕ
  pub search : ConfigSearch
  pub late : Bool
  pub explorable : Explorable p states arcs (length w)
  pub holds : Holds p states arcs h search late w
  pub good : GoodConfig p.pairs.used c
  pub short : (i : ℕ) → i < p.pairs.used → (get_or c.leftovers i outside).len ≤ max_delay
  pub arc_fits : j < p.counts.arcs
  pub taken_fits : h.taken < h.reached
  pub few : h.arcs ≤ 8192 * h.taken + j

-- it was looked at
pub record Visits (p : Plan) (h : Head) (c : Config) (arcs : List ℕ) (j : ℕ) (v : List ℕ) (r : Head) (w : List ℕ) : Type 0 where
  pub grows : Grows p 1 h v r w
  pub meaning : (states : List ℕ) (s : ConfigSearch) (late : Bool) (a : Arc ℕ) → Explorable p states arcs (length v) → Holds p states arcs h s late v
      → get_elem? (table_in p states arcs).arcs j ≡ some a
      → (let o = offer (pairs_in p) (viable_in p states arcs) (config_as p.pairs.used c) a in
      Comes p states arcs r (note_offer h.taken s (j, a) o) (or late (is_late o)) w)

-- ---- one configuration

-- the next configuration may be taken up
pub record Takable (p : Plan) (h : Head) (arcs : List ℕ) (w : List ℕ) : Type 0 where
  pub states : List ℕ
  pub search : ConfigSearch
  pub late : Bool
  pub explorable : Explorable p states arcs (length w)
  pub holds : Holds p states arcs h search late w
  pub taken_fits : h.taken < h.reached
  pub few : h.arcs ≤ 8192 * h.taken

-- it was taken up: all its steps were noted
pub record TakesUp (p : Plan) (h : Head) (arcs : List ℕ) (v : List ℕ) (r : Head) (w : List ℕ) : Type 0 where
  pub taken : r.full ≡ false → r.taken ≡ h.taken + 1
  pub few : r.full ≡ false → r.arcs ≤ 8192 * r.taken
  pub same_length : length w ≡ length v
  pub meaning : (states : List ℕ) (s : ConfigSearch) (late : Bool) (c : automata.Config) → Explorable p states arcs (length v) → Holds p states arcs h s late v
      → get_elem? s.vertices h.taken ≡ some c
      → (let A = table_in p states arcs in
      let test = viable_in p states arcs in
      Comes p states arcs r (note_all automata.same_config h.taken s (out A (pairs_in p) test c)) (or late (late_up_to A (pairs_in p) test (length A.arcs) c)) w)
