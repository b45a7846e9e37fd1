-- The configurations in which paths start: what entering one comes to, and what all of them do.
use Rattle.std.specs.Prelude.{◌≡◌, Bool, false, List, [], ℕ, zero, ◌<◌, length, take}
use Rattle.std.proofs.Math.Option.{Option, some}
use Rattle.std.proofs.Math.ListN.{get_elem?}
use Rattle.automata.specs.Lists.{and, guard, is_some, cons_maybe, map_maybe, numbered}
use Rattle.automata.specs.Automaton.{State, Automaton}
use Rattle.automata.specs.TapePair.{TapePair}
use Rattle.automata.specs.Config as automata
use Rattle.automata.specs.Explore.{insert, insert_all}
use Rattle.automata.specs.Search.{search_from}
use Rattle.automata.specs.Intersect.{starts}
use Rattle.automata.specs.Layout.{config_size}
use Rattle.search_rows.specs.Progress as search
use Rattle.search_chains.specs.Chain.{Chained}
use Rattle.intersect_config.specs.Configs.{Config, config_as, GoodConfig, row_size}
use Rattle.delays.specs.ClosingRegion.{HoldsClosing}
use Rattle.intersect_offers.specs.declared.plan.Plan.{Plan}
use Rattle.intersect_head.specs.declared.head.Head.{Head}
use Rattle.intersect_offers.specs.Plans.{Explorable, table_in, pairs_in, tables_in, viable_in, StoredIn}
use Rattle.intersect_head.specs.Searching.{bucket_by, progress, ConfigSearch, Holds, Comes}

-- the search with further configurations, and no edge more
abbrev pub with_configs : ConfigSearch → List automata.Config → ConfigSearch
with_configs s cs = record { vertices = insert_all automata.same_config s.vertices cs; edges = s.edges }

-- some were entered, within the bounds
abbrev pub Widens : Plan → Head → List ℕ → Head → List ℕ → Type 0
Widens p h v r w = search.Widens p.room.states (progress h) v (progress r) w

-- a configuration may be entered
pub record Admittable (p : Plan) (h : Head) (c : Config) (w : List ℕ) : Type 0 where
  pub states : List ℕ
  pub arcs : List ℕ
  pub search : ConfigSearch
  pub late : Bool
  pub explorable : Explorable p states arcs (length w)
  pub holds : Holds p states arcs h search late w
  pub good : GoodConfig p.pairs.used c
  pub stored : StoredIn p (config_as p.pairs.used c)

-- it was entered
pub record Admits (p : Plan) (h : Head) (c : Config) (v : List ℕ) (r : Head) (w : List ℕ) : Type 0 where
  pub widens : Widens p h v r w
  pub meaning : (states arcs : List ℕ) (s : ConfigSearch) (late : Bool) → Explorable p states arcs (length v) → Holds p states arcs h s late v
      → Comes p states arcs r (record { vertices = insert automata.same_config s.vertices (config_as p.pairs.used c); edges = s.edges }) late w

-- the configuration in which a path starts in a numbered state, where it may
abbrev pub start_by : List TapePair → (automata.Config → Bool) → ℕ × State ℕ → Option automata.Config
start_by ps test q = guard (and (is_some q.1.initial) (test (automata.start_at ps q.0))) (some (automata.start_at ps q.0))

-- those of the first q states
abbrev pub starts_up_to : Automaton ℕ → List TapePair → (automata.Config → Bool) → ℕ → List automata.Config
starts_up_to A ps test q = map_maybe (start_by ps test) (numbered zero (take q A.states))

-- the state with number q may be looked at
pub record Startable (p : Plan) (h : Head) (states : List ℕ) (q : ℕ) (w : List ℕ) : Type 0 where
  pub arcs : List ℕ
  pub search : ConfigSearch
  pub late : Bool
  pub explorable : Explorable p states arcs (length w)
  pub holds : Holds p states arcs h search late w
  pub state_fits : q < p.counts.states

-- it was looked at
pub record Enters (p : Plan) (h : Head) (states : List ℕ) (q : ℕ) (v : List ℕ) (r : Head) (w : List ℕ) : Type 0 where
  pub widens : Widens p h v r w
  pub meaning : (arcs : List ℕ) (s : ConfigSearch) (late : Bool) (a : State ℕ) → Explorable p states arcs (length v) → Holds p states arcs h s late v
      → get_elem? (table_in p states arcs).states q ≡ some a
      → Comes p states arcs r (with_configs s (cons_maybe (start_by (pairs_in p) (viable_in p states arcs) (q, a)) [])) late w

-- the search may begin: the work space holds the closing tables, and every chain is empty
pub record Beginnable (p : Plan) (states : List ℕ) (w : List ℕ) : Type 0 where
  pub arcs : List ℕ
  pub explorable : Explorable p states arcs (length w)
  pub closing : HoldsClosing (tables_in p states arcs) p.room.delays p.counts.states w
  pub chained : Chained (bucket_by p.pairs.used p.room.states) config_size row_size p.room.states 0 w

-- it has begun: no configuration is taken up
pub record Begun (p : Plan) (states : List ℕ) (v : List ℕ) (r : Head) (w : List ℕ) : Type 0 where
  pub taken : r.taken ≡ 0
  pub arcs : r.arcs ≡ 0
  pub same_length : length w ≡ length v
  pub meaning : (arcs : List ℕ) → Explorable p states arcs (length v) → HoldsClosing (tables_in p states arcs) p.room.delays p.counts.states v
      → Chained (bucket_by p.pairs.used p.room.states) config_size row_size p.room.states 0 v
      → Comes p states arcs r (search_from automata.same_config (starts (table_in p states arcs) (pairs_in p) (viable_in p states arcs))) false w
