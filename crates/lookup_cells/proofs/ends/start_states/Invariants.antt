use Prim.Native.Nat.{◌-◌}
use Rattle.lookup_cells.proofs.EndFacts.{Starting}
use Rattle.lookup_cells.proofs.ends.start_states.Given as goal

abbrev pub invariant-loop-q : goal.invariant-loop-q
invariant-loop-q l = Starting l.states l.count l.all l.initial.work l.q (l.count - l.q) l.work
