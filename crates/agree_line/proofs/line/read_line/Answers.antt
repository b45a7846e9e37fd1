use mathlib.Core.Path.{◌∙◌}
use Rattle.table.proofs.AnswerFacts.{handed_on}
use Rattle.agree_line.proofs.LineFacts.{parts_refused, parts_counted, parts_value}
use Rattle.agree_line.proofs.line.read_line.Goals as goal

pub returns-in_err-count : goal.returns-in_err-count
returns-in_err-count c = rw (handed_on _ _ c.from_residual.ensures.1) (parts_refused _ _ c.in_err-count.ensures)

pub read_rest-requires : goal.read_rest-requires
read_rest-requires c = parts_counted _ _ c.in_ok-count.ensures

pub returns : goal.returns
returns c = c.read_rest.ensures ∙ parts_value _ _ c.in_ok-count.ensures
