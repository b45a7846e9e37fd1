use mathlib.Core.Path.{◌≡◌, ◌∙◌}
use native.Mathlib.Omega.{arith}
use Rattle.std.specs.Prelude.{Some, None, Err}
use Rattle.table.proofs.AnswerFacts.{handed_on}
use Rattle.table.specs.declared.answer.Refusal.TheVariants.{Space}
use Rattle.intersect.proofs.PrepareFacts.{table_refused, pairs_refused, space_refused, prepared}
use Rattle.intersect.proofs.prepare.prepare.Goals as goal

pub returns-in_err-judge : goal.returns-in_err-judge
returns-in_err-judge c = rw (handed_on _ _ c.from_residual.ensures.1) (λ ps k. table_refused _ _ _ ps _ _ _ _ c.in_err-judge.ensures)

pub returns-in_err-pairs : goal.returns-in_err-pairs
returns-in_err-pairs c = rw (handed_on _ _ c.from_residual-in_err-pairs.ensures.1) (λ ps k. pairs_refused _ _ _ ps _ _ _ c.in_ok-judge.ensures _ (rw c.in_err-pairs.was at k))

pub returns-in_err-room : goal.returns-in_err-room
returns-in_err-room c =
    let n : c.room_for.result ≡ None = grind arith in
    let e : c.from_residual-in_err-room.result ≡ Err Space = handed_on _ _ c.from_residual-in_err-room.ensures.1 ∙ grind arith in
    rw e (λ ps k. space_refused _ _ _ ps _ _ _ c.in_ok-judge.ensures _ (rw c.in_ok-pairs.was at k) (rw n at c.room_for.ensures))

pub returns : goal.returns
returns c =
    let n : c.room_for.result ≡ Some c.in_ok-room.room = grind arith in
    λ ps k. prepared _ _ _ ps _ _ _ c.in_ok-judge.ensures _ (rw c.in_ok-pairs.was at k) _ (rw n at c.room_for.ensures)
