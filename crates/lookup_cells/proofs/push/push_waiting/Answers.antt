use Rattle.lookup_cells.proofs.PushFacts.{settling_start, settling_turn, spaced_kept, marking_kept}
use Rattle.lookup_cells.proofs.push.push_waiting.Goals as goal

pub loop-queue-init : goal.loop-queue-init
loop-queue-init c = (settling_start _ _ _ _ _ _ c.requires.2.lined c.requires.3, c.requires.4)

pub push_state-requires : goal.push_state-requires
push_state-requires c =
    let l = c.loop-queue in
    let d = c.dequeue-state.ensures in (
      d.state,
      c.requires.0,
      spaced_kept _ _ _ _ _ _ _ l.invariant.0.same_length l.invariant.0.reach c.requires.1,
      marking_kept _ _ _ _ _ d.queue c.requires.2,
      l.invariant.1,
    )

pub loop-queue-preserved : goal.loop-queue-preserved
loop-queue-preserved c =
    let p = c.push_state.ensures in
    (settling_turn _ _ _ _ _ _ _ _ c.loop-queue.invariant.0 c.requires.0 _ _ _ _ c.dequeue-state.ensures p.0, p.1)
