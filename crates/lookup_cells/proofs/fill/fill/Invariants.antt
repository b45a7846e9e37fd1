use lib.ListN.{length}
use Rattle.lookup_cells.specs.Queues.{Queue}
use Rattle.lookup_cells.specs.Recall.{Fresh}
use Rattle.lookup_cells.proofs.FillFacts.{Filling}
use Rattle.lookup_cells.proofs.fill.fill.Given as goal

abbrev pub invariant-loop-number : goal.invariant-loop-number
invariant-loop-number l =
    Filling l.table.counts l.table.states.now l.table.arcs.now l.text l.strings l.spans (length l.initial.work) l.number l.work × Queue l.queue × Fresh l.number l.memo
