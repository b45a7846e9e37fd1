use mathlib.Core.Path.{sym}
use Prim.Native.Nat.{ℕ, ◌*◌}
use Rattle.automata.specs.Layout.{arc_size}
use lib.ListN.{length-replicate}
use Rattle.bench_intersect.proofs.arc_space.Goals as goal

pub returns : goal.returns
returns c = sym (length-replicate {A = ℕ} (8192 * arc_size) 0)
