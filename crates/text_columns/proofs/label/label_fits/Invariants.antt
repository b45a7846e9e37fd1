use mathlib.Core.Path.{◌≡◌}
use Prim.Native.Nat.{◌-◌}
use lib.ListN.{drop, get_or}
use Rattle.automata.specs.Lists.{and}
use Rattle.text_columns.specs.Columns.{follow_from, label_fits}
use Rattle.text_columns.proofs.label.label_fits.Given as goal

abbrev pub invariant-loop-i : goal.invariant-loop-i
invariant-loop-i l = and l.fits (follow_from (get_or l.column (l.i - 1) 0) (drop l.i l.column)) ≡ label_fits l.column
