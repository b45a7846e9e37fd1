-- Records of at most 16 bytes, 16 bytes apart, of which as many are kept as there is room for.
use Rattle.std.specs.Prelude.{ℕ, ◌+◌, ◌*◌, List, ltb}
use Rattle.automata.specs.Lists.{if}
use Rattle.automata.specs.Layout.{step_size}
use Rattle.table.specs.Region.{splice}

-- the work space with one more of the records from place at on, 16 bytes apart, where there is room for it
unfoldable pub stored_within : ℕ → ℕ → ℕ → List ℕ → List ℕ → List ℕ
stored_within at room number bytes w = if (ltb number room) (splice (at + step_size * number) bytes w) w
