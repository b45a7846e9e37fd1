use mathlib.Core.Path.{◌≡◌}
use Prim.Native.Nat.{◌+◌, ◌-◌, ◌*◌}
use Rattle.table.specs.Region.{part}
use Rattle.lookup_labels.proofs.same_words.Given as goal

abbrev pub invariant-loop-k : goal.invariant-loop-k
invariant-loop-k l =
    part (l.i + 8 * l.k) (8 * (l.n - l.k)) l.arcs ≡ part (l.j + 8 * l.k) (8 * (l.n - l.k)) l.arcs → part l.i (8 * l.n) l.arcs ≡ part l.j (8 * l.n) l.arcs
