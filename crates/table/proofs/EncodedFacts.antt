-- The bytes of a record by value are those of what it stands for.
use mathlib.Core.Path.{◌≡◌, refl}
use Rattle.automata.specs.Memory.{state_record}
use Rattle.table.specs.Records.{state_as, state_bytes}
use Rattle.table.specs.declared.record.State.{State}

-- a state
pub state_encoded : (s : State) → state_bytes s ≡ state_record.write (state_as s)
unfolding state_bytes
state_encoded s = refl
