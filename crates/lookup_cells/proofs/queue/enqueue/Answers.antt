use native.Mathlib.Omega.{arith}
use Rattle.lookup_cells.proofs.QueueFacts.{queue_room, enqueues_appended}
use Rattle.lookup_cells.proofs.queue.enqueue.Goals as goal

pub overflow_cast-queue-2 : goal.overflow_cast-queue-2
overflow_cast-queue-2 c =
    let r = queue_room _ _ c.requires.1 c.requires.0 c.if-queue-state-ne0.false in
    omega (arith, r, c.from-count.ensures)

pub returns : goal.returns
returns c = enqueues_appended _ _ c.requires.1 c.requires.0 c.if-queue-state-ne0.false _ (rw (c.from.ensures, c.from-count.ensures))
