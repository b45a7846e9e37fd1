use mathlib.Core.Path.{◌≡◌}
use Rattle.table.specs.Region.{splice}
use Rattle.text_columns.specs.Columns.{leading_text}
use Rattle.text_columns.proofs.decimal.write_leading.Given as goal

abbrev pub invariant-loop-i : goal.invariant-loop-i
invariant-loop-i l = splice l.at (leading_text l.i l.rest) l.out ≡ splice l.at (leading_text l.width l.n) l.initial.out
