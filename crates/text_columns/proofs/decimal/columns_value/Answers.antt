use mathlib.Core.Path.{◌∙◌}
use native.Mathlib.Omega.{arith}
use Rattle.text_columns.proofs.ColumnFacts.{value_turn, value_end, value_bound, value_fits}
use Rattle.text_columns.proofs.decimal.columns_value.Goals as goal

pub overflow_mul-n : goal.overflow_mul-n
overflow_mul-n c = let l = c.loop-c in omega (arith, value_fits l.c-index l.n l.invariant.0 (omega arith))

pub overflow_add-n : goal.overflow_add-n
overflow_add-n c = let l = c.loop-c in omega (arith, value_fits l.c-index l.n l.invariant.0 (omega arith))

pub loop-c-preserved : goal.loop-c-preserved
loop-c-preserved c = let l = c.loop-c in (value_bound l.c-index l.n _ l.invariant.0 (omega arith), rw c.from.ensures (value_turn c.args.column.now l.c-index l.n (omega arith)) ∙ l.invariant.1)

pub returns : goal.returns
returns c = let l = c.loop-c in value_end _ l.c-index l.n (omega arith) ∙ l.invariant.1
