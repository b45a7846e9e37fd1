use mathlib.Core.Path.{refl}
use native.Mathlib.Omega.{arith}
use Rattle.table.specs.Answers.{memory}
use Rattle.table.proofs.AnswerFacts.{handed_on}
use Rattle.product.proofs.CallFacts.{first-refused, second_refused, tapes_few, too_wide, all_fine, too_short}
use Rattle.product.proofs.prepare.prepare.Goals as goal

pub returns-in_err-judge : goal.returns-in_err-judge
returns-in_err-judge c =
    rw (handed_on _ _ c.from_residual.ensures.1)
    (first-refused (memory c.args.first.now) (memory c.args.second.now) _ _ _ _ _ c.in_err-judge.ensures refl)

pub returns-in_err-judge-2 : goal.returns-in_err-judge-2
returns-in_err-judge-2 c =
    rw (handed_on _ _ c.from_residual-in_err-judge-2.ensures.1)
    (second_refused (memory c.args.first.now) (memory c.args.second.now) _ _ _ _ c.in_ok-judge.ensures refl _ _ c.in_err-judge-2.ensures
    refl)

pub overflow_add-first : goal.overflow_add-first
overflow_add-first c =
    let k = tapes_few (memory c.args.first.now) (memory c.args.second.now) 0 0 0 _ c.in_ok-judge.ensures refl _ c.in_ok-judge-2.ensures refl in
    omega (arith, k)

pub returns-then-first-second-gt8 : goal.returns-then-first-second-gt8
returns-then-first-second-gt8 c =
    too_wide (memory c.args.first.now) (memory c.args.second.now) _ _ _ _ c.in_ok-judge.ensures refl _ c.in_ok-judge-2.ensures refl
    c.if-first-second-gt8.true

pub returns-then-enough_work : goal.returns-then-enough_work
returns-then-enough_work c =
    all_fine (memory c.args.first.now) (memory c.args.second.now) _ _ _ _ c.in_ok-judge.ensures refl _ c.in_ok-judge-2.ensures refl
    c.if-first-second-gt8.false _ c.enough_work.ensures c.if-enough_work.true

pub returns-else-enough_work : goal.returns-else-enough_work
returns-else-enough_work c =
    too_short (memory c.args.first.now) (memory c.args.second.now) _ _ _ _ c.in_ok-judge.ensures refl _ c.in_ok-judge-2.ensures refl
    c.if-first-second-gt8.false _ c.enough_work.ensures c.if-enough_work.false
