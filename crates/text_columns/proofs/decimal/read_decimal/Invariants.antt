use mathlib.Core.Path.{◌≡◌}
use Prim.Native.Nat.{◌^◌, ◌<◌}
use lib.ListN.{drop}
use Rattle.text_columns.specs.Columns.{read_decimal}
use Rattle.text_columns.proofs.ColumnFacts.{scan_number}
use Rattle.text_columns.proofs.decimal.read_decimal.Given as goal

abbrev pub invariant-loop-i : goal.invariant-loop-i
invariant-loop-i l = (l.n < 10 ^ l.i) × (scan_number l.n (drop l.i l.column) ≡ read_decimal l.column)
