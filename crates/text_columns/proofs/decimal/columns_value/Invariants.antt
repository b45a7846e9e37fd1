use mathlib.Core.Path.{◌≡◌}
use Prim.Native.Nat.{◌^◌, ◌<◌}
use lib.ListN.{drop}
use Rattle.text_columns.specs.Columns.{columns_value}
use Rattle.text_columns.proofs.decimal.columns_value.Given as goal

abbrev pub invariant-loop-c : goal.invariant-loop-c
invariant-loop-c l = (l.n < 16 ^ l.c-index) × (columns_value l.n (drop l.c-index l.column) ≡ columns_value 0 l.column)
