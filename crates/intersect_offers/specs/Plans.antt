-- What a search over configurations reads: a table in memory, pairs of its tapes, and a work space in parts.
use Rattle.std.specs.Prelude.{◌≡◌, Bool, true, List, ℕ, ◌+◌, ◌*◌, ◌≤◌, length}
use Rattle.automata.specs.Automaton.{Automaton}
use Rattle.automata.specs.TapePair.{TapePair, limits_fit}
use Rattle.automata.specs.Config as automata
use Rattle.automata.specs.Memory.{Sound, table_of}
use Rattle.automata.specs.Closing.{ClosingTables, closing_tables, viable}
use Rattle.automata.specs.Layout.{config_size, delays_size, step_size}
use Rattle.table.specs.Answers.{lent}
use Rattle.table.specs.Pairs.{Named, pairs_as}
use Rattle.intersect_offers.specs.declared.plan.Plan.{Plan}
use Rattle.intersect_offers.specs.Held.{Stored}

-- the table read, with the bytes of its records
abbrev pub table_in : Plan → List ℕ → List ℕ → Automaton ℕ
table_in p states arcs = table_of (lent p.counts states arcs)

-- the pairs of tapes, with their limits
abbrev pub pairs_in : Plan → List TapePair
pairs_in p = pairs_as p.pairs

-- its closing tables, and the test for viable configurations
abbrev pub tables_in : Plan → List ℕ → List ℕ → ClosingTables
tables_in p states arcs = closing_tables (table_in p states arcs) (pairs_in p)

abbrev pub viable_in : Plan → List ℕ → List ℕ → automata.Config → Bool
viable_in p states arcs = viable (tables_in p states arcs)

-- what holds of every configuration that the search stores
abbrev pub StoredIn : Plan → automata.Config → Type 0
StoredIn p = Stored p.pairs.used p.counts.states

-- the bytes hold a table, the pairs name its tapes, and the work space of so many bytes has room for all parts
pub record Explorable (p : Plan) (states arcs : List ℕ) (size : ℕ) : Type 0 where
  pub sound : Sound (lent p.counts states arcs)
  pub named : Named p.counts.tapes p.pairs
  pub four_pairs : length p.pairs.pairs ≡ 4
  pub within_limits : limits_fit (pairs_in p) ≡ true
  pub configs_fit : config_size * p.room.states ≤ p.room.edges
  pub edges_fit : p.room.edges + step_size * p.room.arcs ≤ p.room.delays
  pub delays_fit : p.room.delays + delays_size * p.counts.states ≤ size
  pub few_states : p.room.states ≤ 1024
  pub few_arcs : p.room.arcs ≤ 8192
