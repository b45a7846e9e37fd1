use mathlib.Core.Path.{◌≡◌}
use Prim.Native.Nat.{◌-◌}
use lib.ListN.{drop}
use Rattle.automata.specs.Calls.Lookup.{lines_from}
use Rattle.table.specs.Region.{part}
use Rattle.lookup_tuple.specs.Lines.{lines_at}
use Rattle.lookup_tuple.proofs.line.line_end.Given as goal

abbrev pub invariant-loop-i : goal.invariant-loop-i
invariant-loop-i l = lines_from (part l.from (l.i - l.from) l.text) (drop l.i l.text) ≡ lines_at l.from l.text
