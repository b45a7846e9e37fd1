use mathlib.Core.Path.{refl}
use Rattle.table.specs.Answers.{memory}
use Rattle.table.proofs.AnswerFacts.{handed_on}
use Rattle.lookup.proofs.JudgeFacts.{called_short}
use Rattle.lookup.proofs.CallFacts.{call_refused, work_short, work_enough, work_done}
use Rattle.lookup.proofs.call.find.Goals as goal

pub returns-in_err-strings : goal.returns-in_err-strings
returns-in_err-strings c =
    rw (handed_on _ _ c.from_residual.ensures.1) (call_refused (memory c.args.table.now) _ _ _ c.in_err-strings.ensures)

pub cell_count-requires : goal.cell_count-requires
cell_count-requires c = called_short (memory c.args.table.now) _ _ (c.in_ok-strings.ensures.called _ refl)

pub returns-then-work-cell_count : goal.returns-then-work-cell_count
returns-then-work-cell_count c =
    work_short (memory c.args.table.now) _ _ _ (c.in_ok-strings.ensures.called _ refl) _ c.cell_count.ensures.0 c.if-work-cell_count.true

pub least_weight-requires : goal.least_weight-requires
least_weight-requires c =
    work_enough (memory c.args.table.now) _ c.args.work.now _ (c.in_ok-strings.ensures.called _ refl) _ c.cell_count.ensures.0 c.if-work-cell_count.false

pub returns : goal.returns
returns c =
    work_done (memory c.args.table.now) _ _ _ (c.in_ok-strings.ensures.called _ refl) _ c.cell_count.ensures.0 c.if-work-cell_count.false _ _ c.least_weight.ensures refl
