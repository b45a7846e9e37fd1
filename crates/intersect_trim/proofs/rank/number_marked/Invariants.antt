use mathlib.Core.Path.{◌≡◌}
use Prim.Native.Nat.{ℕ, ◌≤◌, ◌<◌}
use lib.ListN.{take, get_or}
use Rattle.intersect_edges.specs.Marked.{bools}
use Rattle.automata.specs.Trim.{rank}
use Rattle.intersect_trim.proofs.rank.number_marked.Given as goal

abbrev pub invariant-loop-i : goal.invariant-loop-i
invariant-loop-i l =
    (l.kept ≤ l.i) × (l.kept ≡ rank (bools (take l.count l.marks)) l.i) × ((k : ℕ) → k < l.i → get_or l.ranks k 0 ≡ rank (bools (take l.count l.marks)) k)
