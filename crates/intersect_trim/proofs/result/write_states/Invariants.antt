use mathlib.Core.Path.{◌≡◌}
use Prim.Native.Nat.{◌-◌, ◌+◌, ◌*◌, ◌≤◌}
use lib.ListN.{length}
use Rattle.table.specs.Region.{part, splice, rows}
use Rattle.intersect_trim.specs.Result.{kept_states}
use Rattle.intersect_trim.specs.Rows.{Within}
use Rattle.automata.specs.Layout.{config_size}
use Rattle.intersect_trim.proofs.result.write_states.Given as goal

abbrev pub invariant-loop-k : goal.invariant-loop-k
invariant-loop-k l =
    let rest = rows (config_size * l.k) config_size (l.count - l.k) l.work in
    let kept = kept_states l.states (part l.k (l.count - l.k) l.marks) rest in
    Within (length l.states) rest × (l.to + length kept ≤ length l.out)
    × (splice l.to kept l.out ≡ splice 0 (kept_states l.states (part 0 l.count l.marks) (rows 0 config_size l.count l.work)) l.initial.out)
