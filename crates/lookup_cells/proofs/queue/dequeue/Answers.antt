use mathlib.Core.Path.{ap, ◌∙◌}
use Prim.Native.Nat.{ℕ, ◌+◌}
use lib.ListN.{get_or}
use Rattle.lookup_cells.proofs.DequeueFacts.{dequeues_shifted}
use Rattle.lookup_cells.proofs.queue.dequeue.Goals as goal

pub returns : goal.returns
returns c =
    let f = c.from-state.ensures ∙ ap (λ (b : ℕ). get_or c.args.queue.now (1024 + b) 0) c.from-begin.ensures in
    dequeues_shifted _ _ c.requires.0 c.requires.1 f _ (rw (c.from-begin.ensures, c.from-count.ensures))
