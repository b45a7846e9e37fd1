use Rattle.table.proofs.AnswerFacts.{handed_on}
use Rattle.text_columns.proofs.WeightFacts.{present_refused, present_size, present_value}
use Rattle.text_columns.proofs.weight.read_present.Goals as goal

pub returns-in_err-n : goal.returns-in_err-n
returns-in_err-n c = rw (handed_on _ _ c.from_residual.ensures.1) (present_refused _ c.requires _ c.in_err-n.ensures)

pub returns-then-n-le999999999 : goal.returns-then-n-le999999999
returns-then-n-le999999999 c = present_value _ c.requires _ c.in_ok-n.ensures c.if-n-le999999999.true

pub returns-else-n-le999999999 : goal.returns-else-n-le999999999
returns-else-n-le999999999 c = present_size _ c.requires _ c.in_ok-n.ensures c.if-n-le999999999.false
