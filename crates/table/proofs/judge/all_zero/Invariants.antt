use mathlib.Core.Path.{◌≡◌}
use lib.ListN.{drop}
use Rattle.automata.specs.Lists.{all}
use Rattle.automata.specs.Memory.{is_zero}
use Rattle.table.proofs.judge.all_zero.Given as goal

abbrev pub invariant-loop-b : goal.invariant-loop-b
invariant-loop-b l = all is_zero (drop l.b-index l.bytes) ≡ all is_zero l.bytes
