use Rattle.table.proofs.AnswerFacts.{handed_on}
use Rattle.text_columns.proofs.LabelFacts.{number-refused, number_beyond, number-within}
use Rattle.text_columns.proofs.decimal.read_state_number.Goals as goal

pub returns-in_err-n : goal.returns-in_err-n
returns-in_err-n c = rw (handed_on _ _ c.from_residual.ensures.1) (number-refused c.args.states _ c.requires _ c.in_err-n.ensures)

pub returns-then-n-states : goal.returns-then-n-states
returns-then-n-states c = number-within c.args.states _ c.requires _ c.in_ok-n.ensures c.if-n-states.true

pub returns-else-n-states : goal.returns-else-n-states
returns-else-n-states c = number_beyond c.args.states _ c.requires _ c.in_ok-n.ensures c.if-n-states.false
