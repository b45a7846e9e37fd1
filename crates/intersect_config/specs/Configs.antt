-- A configuration by value: what it stands for, when it is in its one form, and its record in work space.
use Rattle.std.specs.Prelude.{◌≡◌, Bool, List, [], ◌∷◌, ◌++◌, map, ℕ, ◌+◌, ◌-◌, ◌*◌, ◌≤◌, ◌<◌, length, get_or, take, drop, replicate}
use Rattle.automata.specs.Lists.{All}
use Rattle.automata.specs.TapePair.{TapePair}
use Rattle.automata.specs.Config as automata
use Rattle.table.specs.Region.{part}
use Rattle.table.specs.Endian.{le, to_le}
use Rattle.table.specs.declared.record.InputState.{InputState}
use Rattle.intersect_config.specs.declared.leftover.Leftover.{Leftover}
use Rattle.intersect_config.specs.Leftovers.{on_tape, leftover_as, blank, outside, Good, leftover_bytes, leftover_at, leftover_size}

-- what the bytes of a configuration say: a state of the table read, and what is left of each of four pairs of tapes;
-- blank past the pairs used
pub record Config : Type 0 where
  pub state : InputState
  pub leftovers : List Leftover

-- the configuration of so many pairs
abbrev pub config_as : ℕ → Config → automata.Config
config_as used c = record { state = c.state.0; leftovers = map leftover_as (take used c.leftovers) }

-- the one form of a configuration of so many pairs: each leftover in its one form, and blank past the pairs
pub record GoodConfig (used : ℕ) (c : Config) : Type 0 where
  pub state_fits : c.state.0 < 65536
  pub four : length c.leftovers ≡ 4
  pub each : All Good c.leftovers
  pub blanks : drop used c.leftovers ≡ replicate (4 - used) blank

-- how many bytes a configuration takes up: its state 2, each of four leftovers 74
abbrev pub row_size : ℕ
row_size = 298

unfoldable pub config_bytes : Config → List ℕ
config_bytes c =
    to_le 2 c.state.0
    ++ (leftover_bytes (get_or c.leftovers 0 outside)
    ++ (leftover_bytes (get_or c.leftovers 1 outside) ++ (leftover_bytes (get_or c.leftovers 2 outside) ++ leftover_bytes (get_or c.leftovers 3 outside))))

-- where the leftover of a pair stands in a record
abbrev pub slot : ℕ → ℕ
slot i = 2 + leftover_size * i

-- the configuration whose record stands at a place
unfoldable pub config_at : ℕ → List ℕ → Config
config_at at xs = record {
  state = record { 0 = le (part at 2 xs) };
  leftovers = leftover_at (at + 2) xs ∷ leftover_at (at + slot 1) xs ∷ leftover_at (at + slot 2) xs ∷ leftover_at (at + slot 3) xs ∷ [];
}

-- the bytes are the record of a configuration of so many pairs in its one form
pub record Row (used : ℕ) (row : List ℕ) : Type 0 where
  pub good : GoodConfig used (config_at 0 row)
  pub bytes : config_bytes (config_at 0 row) ≡ row

-- the configuration in which a path starts at state q, for however many pairs
pub record Starts (q : ℕ) (r : Config) : Type 0 where
  pub meaning : (ps : List TapePair) → length ps ≤ 4 → config_as (length ps) r ≡ automata.start_at ps q
  pub good : (used : ℕ) → GoodConfig used r

-- the lengths of all four leftovers on the second tapes, or on the first
abbrev pub lengths_on : Bool → Config → List ℕ
lengths_on second c = map (λ l. length (on_tape second l)) (config_as 4 c).leftovers
