use mathlib.Core.Path.{refl}
use Rattle.table.specs.Answers.{memory}
use Rattle.table.proofs.AnswerFacts.{handed_on}
use Rattle.product.proofs.CallFacts.{call_refused, call_made}
use Rattle.product.proofs.call.multiply.Goals as goal

pub returns-in_err-prepare : goal.returns-in_err-prepare
returns-in_err-prepare c =
    rw (handed_on _ _ c.from_residual.ensures.1)
    (call_refused (memory c.args.first.now) (memory c.args.second.now) c.args.out_states.now c.args.out_arcs.now c.args.work.now _
    c.in_err-prepare.ensures _ refl)

pub returns : goal.returns
returns c =
    call_made (memory c.args.first.now) (memory c.args.second.now) c.args.out_states.now c.args.out_arcs.now c.args.work.now _
    c.in_ok-prepare.ensures refl _ c.product_step.ensures
