use mathlib.Core.Path.{sym, ◌∙◌}
use Rattle.text_columns.proofs.WeightFacts.{weight-absent, weight_judged}
use Rattle.text_columns.proofs.weight.judge_weight.Goals as goal

pub returns-then-is_absent : goal.returns-then-is_absent
returns-then-is_absent c = weight-absent _ (sym c.is_absent.ensures ∙ c.if-is_absent.true)

pub returns-else-is_absent : goal.returns-else-is_absent
returns-else-is_absent c = rw c.and.ensures (weight_judged _ _ (sym c.is_absent.ensures ∙ c.if-is_absent.false) c.read_present.ensures)
