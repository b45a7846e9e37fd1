use mathlib.Core.Path.{◌≡◌}
use Prim.Native.Nat.{◌+◌, ◌-◌}
use Rattle.automata.specs.Lists.{same_list}
use Rattle.table.specs.Region.{part}
use Rattle.lookup_moves.proofs.moves.same_bytes.Given as goal

abbrev pub invariant-loop-k : goal.invariant-loop-k
invariant-loop-k l =
    same_list (part (l.i + l.k) (l.n - l.k) l.x) (part (l.j + l.k) (l.n - l.k) l.y) ≡ same_list (part l.i l.n l.x) (part l.j l.n l.y)
