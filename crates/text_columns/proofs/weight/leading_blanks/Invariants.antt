use mathlib.Core.Path.{◌≡◌}
use Prim.Native.Nat.{◌+◌, ◌≤◌}
use Rattle.text_columns.specs.Columns.{blank_count}
use Rattle.text_columns.proofs.WeightFacts.{blanks_from}
use Rattle.text_columns.proofs.weight.leading_blanks.Given as goal

abbrev pub invariant-loop-c : goal.invariant-loop-c
invariant-loop-c l = (l.n ≤ l.c-index) × (l.n + blanks_from l.blank l.c-index l.column ≡ blank_count l.column)
