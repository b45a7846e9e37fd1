use mathlib.Core.Path.{refl}
use native.Mathlib.Omega.{arith}
use Rattle.automata.specs.Memory.{Sound, table_of, decode_table}
use Rattle.table.proofs.PairFacts.{named-tested}
use Rattle.cases_delays.proofs.both_or_none.Goals as goal

pub show-requires : goal.show-requires
unfolding Sound table_of decode_table
show-requires c = (omega arith, refl, named-tested _ _ (omega arith) (omega arith) refl)

pub show-requires-2 : goal.show-requires-2
unfolding Sound table_of decode_table
show-requires-2 c = (omega arith, refl, named-tested _ _ (omega arith) (omega arith) refl)
