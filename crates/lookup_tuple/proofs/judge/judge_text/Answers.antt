use mathlib.Core.Bool.{true, false}
use mathlib.Core.Path.{◌≡◌, ap, sym, ◌∙◌}
use Rattle.automata.specs.Answer.{ok}
use Rattle.table.specs.declared.answer.Refusal.TheVariants.{Short}
use Rattle.table.proofs.AnswerFacts.{handed_on}
use Rattle.lookup_tuple.proofs.JudgementFacts.{judged_unended, judged_tape, judged_size, judged_bytes}
use Rattle.lookup_tuple.proofs.judge.judge_text.Goals as goal

pub returns-in_err-count : goal.returns-in_err-count
returns-in_err-count c =
    let none = c.in_err-count.ensures in
    let short : c.in_err-count.field-0.0 ≡ Short = (let e = rw none.ok_part at none.value in cc) in
    rw (handed_on _ _ c.from_residual.ensures.1, short) (judged_unended _ _ (rw none.ok_part at c.count_lines.ensures))

pub returns-then-count-tapes : goal.returns-then-count-tapes
returns-then-count-tapes c = judged_tape _ _ _ (rw c.in_ok-count.ensures.ok_part at c.count_lines.ensures) c.if-count-tapes.true

pub returns-then-not-sizes_fit : goal.returns-then-not-sizes_fit
returns-then-not-sizes_fit c =
    judged_size _ _ _ (rw c.in_ok-count.ensures.ok_part at c.count_lines.ensures) c.if-count-tapes.false
    (ap ok (sym c.if-not-sizes_fit.true) ∙ c.sizes_fit.ensures)

pub returns-then-not-symbols_fit : goal.returns-then-not-symbols_fit
returns-then-not-symbols_fit c =
    judged_bytes _ _ _ (rw c.in_ok-count.ensures.ok_part at c.count_lines.ensures) c.if-count-tapes.false
    (ap ok (sym c.if-not-sizes_fit.false) ∙ c.sizes_fit.ensures) false (ap ok (sym c.if-not-symbols_fit.true) ∙ c.symbols_fit.ensures)

pub returns-else-not-symbols_fit : goal.returns-else-not-symbols_fit
returns-else-not-symbols_fit c =
    judged_bytes _ _ _ (rw c.in_ok-count.ensures.ok_part at c.count_lines.ensures) c.if-count-tapes.false
    (ap ok (sym c.if-not-sizes_fit.false) ∙ c.sizes_fit.ensures) true (ap ok (sym c.if-not-symbols_fit.false) ∙ c.symbols_fit.ensures)
