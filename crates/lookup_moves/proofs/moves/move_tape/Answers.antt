use Rattle.lookup_moves.proofs.MoveFacts.{move_long, move_differs, move_same}
use Rattle.lookup_moves.proofs.moves.move_tape.Goals as goal
use Rattle.lookup_moves.proofs.moves.move_tape.Goals.{else-n-size-via-then-n-size+else-same_bytes, else-n-size-via-else-n-size}

pub returns-then-same_bytes : goal.returns-then-same_bytes
returns-then-same_bytes c = move_same _ _ _ _ _ _ c.if-n-size.true _ c.same_bytes.ensures c.if-same_bytes.true

pub returns-else-n-size : goal.returns-else-n-size
returns-else-n-size c =
    elim c.else-n-size.branch [
      | else-n-size-via-then-n-size+else-same_bytes w ↦ move_differs _ _ _ _ _ _ w.if-n-size.true _ w.same_bytes.ensures w.if-same_bytes.false
      | else-n-size-via-else-n-size w ↦ move_long _ _ _ _ _ _ w.if-n-size.false
    ]
