-- The whole search: what it comes to is the exploration of the definitions.
use Rattle.std.specs.Prelude.{◌≡◌, false, List, ℕ, length}
use Rattle.automata.specs.Config as automata
use Rattle.automata.specs.Explore.{edges}
use Rattle.automata.specs.Search.{search_from}
use Rattle.automata.specs.Intersect.{starts, out, reached_configs, delayed}
use Rattle.intersect_offers.specs.declared.plan.Plan.{Plan}
use Rattle.intersect_head.specs.declared.head.Head.{Head}
use Rattle.intersect_offers.specs.Plans.{Explorable, table_in, pairs_in, viable_in}
use Rattle.intersect_head.specs.Searching.{ConfigSearch, Comes}

module _ (p : Plan) (states arcs : List ℕ) where
  -- the search before a configuration is taken up
  abbrev pub begun_search : ConfigSearch
  begun_search = search_from automata.same_config (starts (table_in p states arcs) (pairs_in p) (viable_in p states arcs))

  -- the reached configurations, or more than there is room for
  abbrev pub reached_in : List automata.Config
  reached_in = reached_configs (table_in p states arcs) (pairs_in p) (viable_in p states arcs) p.room.states

  -- The head r and the work space w hold the reached configurations and the edges between them, and tell whether a step
  -- from one of them is too long; or the head is full, and there are more of them than there is room for.
  abbrev pub ComesToReached : Head → List ℕ → Type 0
  ComesToReached r w = Comes p states arcs r
      (record { vertices = reached_in; edges = edges automata.same_config (out (table_in p states arcs) (pairs_in p) (viable_in p states arcs)) reached_in })
      (delayed (table_in p states arcs) (pairs_in p) (viable_in p states arcs) reached_in) w

-- the configurations may be taken up
pub record Runnable (p : Plan) (h : Head) (arcs : List ℕ) (w : List ℕ) : Type 0 where
  pub states : List ℕ
  pub explorable : Explorable p states arcs (length w)
  pub begun : Comes p states arcs h (begun_search p states arcs) false w
  pub taken : h.taken ≡ 0
  pub arcs_none : h.arcs ≡ 0

-- they were taken up
pub record Runs (p : Plan) (h : Head) (arcs : List ℕ) (v : List ℕ) (r : Head) (w : List ℕ) : Type 0 where
  pub same_length : length w ≡ length v
  pub meaning : (states : List ℕ) → Explorable p states arcs (length v) → Comes p states arcs h (begun_search p states arcs) false v → ComesToReached p states arcs r w

-- what the whole search leaves
pub record Explored (p : Plan) (states arcs : List ℕ) (v : List ℕ) (r : Head) (w : List ℕ) : Type 0 where
  pub same_length : length w ≡ length v
  pub comes : ComesToReached p states arcs r w
