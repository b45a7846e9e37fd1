use mathlib.Core.Path.{◌≡◌}
use Prim.Native.Nat.{◌-◌, ◌*◌}
use lib.ListN.{drop}
use Rattle.automata.specs.Answer.{ok, forget}
use Rattle.automata.specs.Layout.{label_size}
use Rattle.table.specs.Judging.{labels_read}
use Rattle.table.proofs.good.good_labels.Given as goal

abbrev pub invariant-loop-tape : goal.invariant-loop-tape
invariant-loop-tape l = forget (labels_read (l.tapes - l.tape) (drop (label_size * l.tape) l.labels)) ≡ ok tt → forget (labels_read l.tapes l.labels) ≡ ok tt
