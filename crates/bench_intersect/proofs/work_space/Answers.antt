use mathlib.Core.Path.{sym}
use Prim.Native.Nat.{ℕ, ◌+◌, ◌*◌}
use Rattle.automata.specs.Layout.{config_size, delays_size, step_size}
use lib.ListN.{length-replicate}
use Rattle.bench_intersect.proofs.work_space.Goals as goal

pub returns : goal.returns
returns c = sym (length-replicate {A = ℕ} (1024 * config_size + 8192 * step_size + 1024 * delays_size) 0)
