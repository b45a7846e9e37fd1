-- Configurations in work space: the configuration by value of one of the definitions, its row, and a list of them in
-- rows.
use Rattle.std.specs.Prelude.{◌≡◌, List, ◌++◌, map, ℕ, ◌-◌, ◌≤◌, ◌<◌, length, get_or, replicate}
use Rattle.automata.specs.Limits.{max_delay}
use Rattle.automata.specs.Config as automata
use Rattle.automata.specs.Layout.{config_size}
use Rattle.search_chains.specs.Chain.{fronts}
use Rattle.intersect_config.specs.Leftovers.{leftover_of, blank, outside}
use Rattle.intersect_config.specs.Configs.{Config, config_as, GoodConfig, config_bytes, row_size}

-- the configuration by value: blank past its leftovers
abbrev pub config_of : automata.Config → Config
config_of c = record {
  state = record { 0 = c.state };
  leftovers = map leftover_of c.leftovers ++ replicate (4 - length c.leftovers) blank;
}

-- its record, at the front of its row
unfoldable pub row_of : automata.Config → List ℕ
row_of c = config_bytes (config_of c)

-- the records of cs stand in rows at the front of w
abbrev pub HoldsConfigs : List automata.Config → List ℕ → Type 0
HoldsConfigs cs w = fronts 0 config_size row_size (length cs) w ≡ map row_of cs

-- What holds of every configuration that is stored: its state is one of n, and by value it is in its one form for so
-- many pairs, stands for the same configuration, and has no leftover longer than the greatest limit.
pub record Stored (used n : ℕ) (c : automata.Config) : Type 0 where
  pub state_fits : c.state < n
  pub form : GoodConfig used (config_of c)
  pub meaning : config_as used (config_of c) ≡ c
  pub short : (h : ℕ) → h < used → (get_or (config_of c).leftovers h outside).len ≤ max_delay
