use Rattle.lookup_moves.specs.Moves.{spot_with}
use Rattle.lookup_moves.specs.Distances.{cells_of}
use Rattle.lookup_cells.specs.Pushes.{to_do}
use Rattle.lookup_cells.proofs.PushFacts.{Settling}
use Rattle.lookup_cells.specs.Recall.{Knows}
use Rattle.lookup_cells.proofs.push.push_waiting.Given as goal

abbrev pub invariant-loop-queue : goal.invariant-loop-queue
invariant-loop-queue l =
    Settling l.counts l.arcs l.text (spot_with l.starts l.positions l.spans l.number l.all) l.initial.work l.initial.queue l.work l.queue × Knows l.counts l.arcs l.text l.starts l.positions l.spans l.number l.numbers l.memo

abbrev pub decreases-loop-queue : goal.decreases-loop-queue
decreases-loop-queue l = to_do l.queue (cells_of l.work)
