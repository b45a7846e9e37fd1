-- Tapes that are chosen: the first so many of a list of bytes, and those that a set leaves.
use Rattle.std.specs.Prelude.{ℕ, zero, suc, ◌≤◌, ◌<◌, Bool, true, ◌≡◌, List, [], ◌∷◌, length, get_or}
use Rattle.automata.specs.Lists.{if}
use Rattle.automata.specs.Memory.{Memory, Sound}
use Rattle.automata.specs.Projection.{droppable}
use Rattle.automata.specs.Calls.Drop.{in_mask}

-- the first so many bytes of a list are at most eight tapes out of eight
pub record Choice (tapes : List ℕ) (used : ℕ) : Type 0 where
  pub lent : used ≤ length tapes
  pub few : used ≤ 8
  pub each : (k : ℕ) → k < used → (1 ≤ get_or tapes k 0) × (get_or tapes k 0 ≤ 8)

-- the tape at a place, unless the place is in the set
abbrev pub tape_left : Bool → ℕ → List ℕ
tape_left d k = if d [] (suc k ∷ [])

-- the tapes at the n places from k on that are not in the set
abbrev pub tapes_left : (ℕ → Bool) → ℕ → ℕ → List ℕ
tapes_left d k zero = []
tapes_left d k (suc n) = let r = tapes_left d (suc k) n in if (d k) r (suc k ∷ r)

-- a table of which the tapes marked in a mask may be dropped
pub record Droppable (table : Memory) (mask : ℕ) : Type 0 where
  pub sound : Sound table
  pub marks : droppable (in_mask mask) table.tapes ≡ true
