use Rattle.agree_line.proofs.LineFacts.{count_long, count_short, count_value}
use Rattle.agree_line.proofs.line.count_pairs.Goals as goal

pub returns-then-input-gt-INPUT_LIMIT : goal.returns-then-input-gt-INPUT_LIMIT
returns-then-input-gt-INPUT_LIMIT c = count_long _ c.if-input-gt-INPUT_LIMIT.true

pub returns-then-input-lt-SHORTEST_LINE : goal.returns-then-input-lt-SHORTEST_LINE
returns-then-input-lt-SHORTEST_LINE c = count_short _ c.if-input-gt-INPUT_LIMIT.false c.if-input-lt-SHORTEST_LINE.true

pub returns : goal.returns
returns c = count_value _ c.if-input-gt-INPUT_LIMIT.false c.read_decimal.result c.if-input-lt-SHORTEST_LINE.false c.read_decimal.ensures
