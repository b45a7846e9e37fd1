-- What an arc offers a configuration, by value.
use Rattle.std.specs.Prelude.{◌≡◌, Bool, List, ℕ, ◌+◌, ◌*◌, ◌≤◌, ◌<◌, length, get_or}
use Rattle.std.proofs.Math.Option.{some}
use Rattle.std.proofs.Math.ListN.{get_elem?}
use Rattle.automata.specs.Limits.{max_delay}
use Rattle.automata.specs.Automaton.{Arc}
use Rattle.automata.specs.Config as automata
use Rattle.automata.specs.Closing.{ClosingTables, viable}
use Rattle.automata.specs.Offer.{Offer, nothing, late, to, offer}
use Rattle.automata.specs.Layout.{delays_size}
use Rattle.intersect_config.specs.Leftovers.{outside}
use Rattle.intersect_config.specs.Configs.{Config, config_as, GoodConfig, config_at, config_bytes}
use Rattle.delays.specs.ClosingRegion.{HoldsClosing}
use Rattle.intersect_offers.specs.declared.plan.Plan.{Plan}
use Rattle.intersect_offers.specs.declared.offer.Kind.{Kind}
use Rattle.intersect_offers.specs.declared.offer.Kind.TheVariants.{Nothing, Late, To}
use Rattle.intersect_offers.specs.Plans.{Explorable, table_in, pairs_in, tables_in, viable_in, StoredIn}

-- r tells whether the configuration of so many pairs is viable, for all closing tables of as many pairs that the region
-- from base holds
abbrev pub TellsViable : ℕ → ℕ → Config → List ℕ → Bool → Type 0
TellsViable base used c w r =
    (T : ClosingTables) (n : ℕ) → HoldsClosing T base n w → base + delays_size * n ≤ length w → c.state.0 < n → length T.closings ≡ used → r ≡ viable T (config_as used c)

-- what is offered, and the successor where it is one
pub record Offered : Type 0 where
  pub kind : Kind
  pub config : Config

-- what an offer stands for, of so many pairs
abbrev pub offer_by : Kind → automata.Config → Offer automata.Config
offer_by Nothing d = nothing
offer_by Late d = late
offer_by To d = to d

abbrev pub offered_as : ℕ → Offered → Offer automata.Config
offered_as used r = offer_by r.kind (config_as used r.config)

-- the configuration c may be offered a step by the arc with number j
pub record Offerable (p : Plan) (c : Config) (arcs : List ℕ) (j : ℕ) (w : List ℕ) : Type 0 where
  pub states : List ℕ
  pub explorable : Explorable p states arcs (length w)
  pub good : GoodConfig p.pairs.used c
  pub short : (h : ℕ) → h < p.pairs.used → (get_or c.leftovers h outside).len ≤ max_delay
  pub arc_fits : j < p.counts.arcs

-- r is what the arc with number j offers c, where the work space w holds the closing tables; a successor is one that
-- may be stored
pub record Offers (p : Plan) (c : Config) (arcs : List ℕ) (j : ℕ) (w : List ℕ) (r : Offered) : Type 0 where
  pub good : GoodConfig p.pairs.used r.config
  pub stored : r.kind ≡ To → StoredIn p (config_as p.pairs.used r.config)
  pub meaning : (states : List ℕ) (a : Arc ℕ) → Explorable p states arcs (length w) → HoldsClosing (tables_in p states arcs) p.room.delays p.counts.states w
      → get_elem? (table_in p states arcs).arcs j ≡ some a → offered_as p.pairs.used r ≡ offer (pairs_in p) (viable_in p states arcs) (config_as p.pairs.used c) a

-- the same, where the successor is told by its bytes
pub record OffersIn (p : Plan) (own arcs : List ℕ) (j : ℕ) (w : List ℕ) (k : Kind) (row : List ℕ) : Type 0 where
  pub offers : Offers p (config_at 0 own) arcs j w (record { kind = k; config = config_at 0 row })
  pub bytes : config_bytes (config_at 0 row) ≡ row
