use mathlib.Core.Path.{◌≡◌}
use mathlib.Core.Bool.{true}
use Prim.Native.Nat.{◌*◌}
use lib.ListN.{drop}
use Rattle.automata.specs.Lists.{all}
use Rattle.automata.specs.Memory.{is_zero}
use Rattle.automata.specs.Layout.{label_size}
use Rattle.table.proofs.good.blank_labels.Given as goal

abbrev pub invariant-loop-tape : goal.invariant-loop-tape
invariant-loop-tape l = all is_zero (drop (label_size * l.tape) l.labels) ≡ true → all is_zero l.labels ≡ true
