use native.Mathlib.Omega.{arith}
use borrow.Author.Rules.{rules}
use Rattle.intersect_room.proofs.RoomFacts.{short, whole}
use Rattle.intersect_room.proofs.room.room_for.Goals as goal

pub returns-in_err-edges : goal.returns-in_err-edges
returns-in_err-edges c = rw c.from_residual.ensures (short _ _ _ _ (omega (arith, c.in_err-edges.ensures)))

pub returns-in_err-checked_mul : goal.returns-in_err-checked_mul
returns-in_err-checked_mul c = rw c.from_residual-in_err-checked_mul.ensures (short _ _ _ _ (omega (arith, c.in_err-checked_mul.ensures)))

pub returns-in_err-delays : goal.returns-in_err-delays
returns-in_err-delays c = rw c.from_residual-in_err-delays.ensures (short _ _ _ _ (omega (arith, c.in_err-delays.ensures, c.in_ok-edges.ensures, c.in_ok-checked_mul.ensures)))

pub returns-in_err-checked_mul-2 : goal.returns-in_err-checked_mul-2
returns-in_err-checked_mul-2 c = rw c.from_residual-in_err-checked_mul-2.ensures (short _ _ _ _ (omega (arith, c.in_err-checked_mul-2.ensures)))

pub returns-in_err-end : goal.returns-in_err-end
returns-in_err-end c = rw c.from_residual-in_err-end.ensures (short _ _ _ _ (omega (arith, c.in_err-end.ensures, c.in_ok-edges.ensures, c.in_ok-checked_mul.ensures, c.in_ok-delays.ensures, c.in_ok-checked_mul-2.ensures)))

pub returns-then-work-end : goal.returns-then-work-end
returns-then-work-end c = short _ _ _ _ (omega (arith, c.in_ok-edges.ensures, c.in_ok-checked_mul.ensures, c.in_ok-delays.ensures, c.in_ok-checked_mul-2.ensures, c.in_ok-end.ensures))

pub returns : goal.returns
returns c = whole _ _ _ _ _ _ _ _ (omega (arith, c.in_ok-edges.ensures)) (omega (arith, c.in_ok-edges.ensures, c.in_ok-checked_mul.ensures, c.in_ok-delays.ensures)) (omega (arith, c.in_ok-checked_mul-2.ensures, c.in_ok-end.ensures)) (search rules) (search rules)
