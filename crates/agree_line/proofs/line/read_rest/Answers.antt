use mathlib.Core.Path.{refl}
use Rattle.table.proofs.AnswerFacts.{handed_on}
use Rattle.agree_line.proofs.LineFacts.{rest_short, rest_refused, rest_fine}
use Rattle.agree_line.proofs.line.read_rest.Goals as goal

pub returns-then-input-next : goal.returns-then-input-next
returns-then-input-next c = rest_short _ _ c.requires.1 c.if-input-next.true

pub returns-in_err-judge_line : goal.returns-in_err-judge_line
returns-in_err-judge_line c = rw (handed_on _ _ c.from_residual.ensures.1) (rest_refused _ _ c.requires.1 c.if-input-next.false _ c.in_err-judge_line.ensures _ refl)

pub returns : goal.returns
returns c = rest_fine _ _ c.requires.1 c.if-input-next.false _ c.in_ok-judge_line.ensures refl
