use mathlib.Core.Path.{◌≡◌}
use Prim.Native.Nat.{◌+◌, ◌-◌, ◌*◌, ◌≤◌}
use Rattle.automata.specs.Layout.{label_size}
use Rattle.table.specs.Arcs.{labels_start}
use Rattle.lookup_moves.specs.Moves.{moves_from, spot_with}
use Rattle.lookup_moves.proofs.moves.moved_back.Given as goal

abbrev pub invariant-loop-h : goal.invariant-loop-h
invariant-loop-h l =
    (l.from ≡ labels_start l.at + label_size * l.h) × (l.total ≤ l.h * 2549158503125000)
    × (moves_from (l.tapes - l.h) l.h l.from l.total l.arcs l.text (spot_with l.starts l.positions l.spans 0 0)
    ≡ moves_from l.tapes 0 (labels_start l.at) 0 l.arcs l.text (spot_with l.starts l.positions l.spans 0 0))
