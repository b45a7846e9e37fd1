use mathlib.Core.Path.{refl}
use native.Mathlib.Omega.{arith}
use Rattle.std.specs.Prelude.{Ok, Err}
use Rattle.table.proofs.RegionFacts.{prefix_length}
use Rattle.agree_text.proofs.KeptFacts.{agree-refused, agree-line, line_bounds, wrote_as}
use Rattle.agree_text.proofs.agree_text.Goals as goal

pub overflow_mul-used : goal.overflow_mul-used
overflow_mul-used c = let b = line_bounds _ _ (Ok _) c.in-Ok.ensures _ refl in omega (arith, b.0)

pub slice_bounds-keep_text-count : goal.slice_bounds-keep_text-count
slice_bounds-keep_text-count c = let b = line_bounds _ _ (Ok _) c.in-Ok.ensures _ refl in omega (arith, b.1)

pub slice_bounds-pairs-end : goal.slice_bounds-pairs-end
slice_bounds-pairs-end c = let b = line_bounds _ _ (Ok _) c.in-Ok.ensures _ refl in omega (arith, b.2)

pub slice_bounds-keep_text-end-in-Ok : goal.slice_bounds-keep_text-end-in-Ok
slice_bounds-keep_text-end-in-Ok c = let b = line_bounds _ _ (Ok _) c.in-Ok.ensures _ refl in prefix_length _ _ _ refl (omega (arith, b.2))

pub returns-in-Ok : goal.returns-in-Ok
returns-in-Ok c = wrote_as _ _ _ _ _ (agree-line _ _ (Ok _) c.in-Ok.ensures _ refl) c.keep_text.ensures

pub returns-in-Err : goal.returns-in-Err
returns-in-Err c = wrote_as _ _ _ _ _ (agree-refused _ _ (Err _) c.in-Err.ensures _ refl) c.write_refusal.ensures
