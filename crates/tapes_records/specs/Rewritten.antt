-- Records of arcs rewritten one after the other: the labels on chosen tapes, and states with higher numbers.
use Rattle.std.specs.Prelude.{ℕ, ◌+◌, ◌-◌, ◌*◌, List, ◌++◌}
use Rattle.automata.specs.Records.{chunks, write_all}
use Rattle.automata.specs.Memory.{zeros}
use Rattle.automata.specs.Layout.{arc_size, content_place, content_size, label_size, labels_place, labels_size}
use Rattle.table.specs.Arcs.{source_at, target_at}
use Rattle.table.specs.Region.{part, splice}
use Rattle.table.specs.Endian.{to_le}

-- the first n records of arcs, each rewritten
unfoldable pub rewritten : (List ℕ → List ℕ) → ℕ → List ℕ → List ℕ
rewritten f n x = write_all f (chunks arc_size n x)

-- the labels on the tapes of a list, one after the other
unfoldable pub chosen_labels : List ℕ → List ℕ → List ℕ
chosen_labels js labels = write_all (λ j. part (label_size * (j - 1)) label_size labels) js

-- an arc's record with these labels, and zeros behind them
unfoldable pub chosen_arc : List ℕ → List ℕ → List ℕ
chosen_arc js arc = splice labels_place (splice 0 (chosen_labels js (part labels_place labels_size arc)) (zeros labels_size)) arc

-- an arc's record whose states have numbers higher by k
unfoldable pub raised_arc : ℕ → List ℕ → List ℕ
raised_arc k arc = to_le 2 (k + source_at 0 arc) ++ (to_le 2 (k + target_at 0 arc) ++ part content_place content_size arc)
