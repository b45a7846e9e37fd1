use Rattle.lookup_cells.proofs.PushFacts.{Chaining}
use Rattle.lookup_moves.specs.Moves.{spot_with}
use Rattle.lookup_cells.specs.Recall.{Knows}
use Prim.Native.Nat.{◌-◌}
use Rattle.lookup_cells.proofs.push.push_state.Given as goal

abbrev pub invariant-loop-e : goal.invariant-loop-e
invariant-loop-e l =
    Chaining l.counts l.arcs l.text (spot_with l.starts l.positions l.spans l.number l.all) l.state l.initial.work l.initial.queue l.e l.work l.queue × Knows l.counts l.arcs l.text l.starts l.positions l.spans l.number l.numbers l.memo

abbrev pub decreases-loop-e : goal.decreases-loop-e
decreases-loop-e l = l.counts.arcs - l.e
