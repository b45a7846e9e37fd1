use native.Mathlib.Omega.{arith}
use Rattle.join.proofs.RoomFacts.{short, by_build}
use Rattle.join.proofs.room.join_room.Goals as goal

pub returns-in_err-checked_mul : goal.returns-in_err-checked_mul
returns-in_err-checked_mul c = rw c.from_residual.ensures (short _ _ _ _ _ (omega (arith, c.in_err-checked_mul.ensures)))

pub returns-in_err-rest : goal.returns-in_err-rest
returns-in_err-rest c = rw c.from_residual-in_err-rest.ensures (short _ _ _ _ _ (omega (arith, c.in_ok-checked_mul.ensures, c.in_err-rest.ensures)))

pub returns-in_err-checked_mul-2 : goal.returns-in_err-checked_mul-2
returns-in_err-checked_mul-2 c = rw c.from_residual-in_err-checked_mul-2.ensures (short _ _ _ _ _ (omega (arith, c.in_err-checked_mul-2.ensures)))

pub returns-in_err-left : goal.returns-in_err-left
returns-in_err-left c =
    rw c.from_residual-in_err-left.ensures
    (short _ _ _ _ _ (omega (arith, c.in_ok-checked_mul.ensures, c.in_ok-rest.ensures, c.in_ok-checked_mul-2.ensures, c.in_err-left.ensures)))

pub returns : goal.returns
returns c =
    by_build _ _ _ _ _ _ (omega (arith, c.in_ok-checked_mul.ensures, c.in_ok-rest.ensures, c.in_ok-checked_mul-2.ensures, c.in_ok-left.ensures)) _ c.room_for.ensures
