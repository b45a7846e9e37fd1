-- The records that are written are those of the table.
use Prim.Native.Nat.{ℕ, ◌*◌}
use mathlib.Core.Path.{◌≡◌}
use mathlib.Core.List.{List}
use lib.ListN.{replicate}
use Rattle.automata.specs.Memory.{Sound}
use Rattle.automata.specs.Layout.{arc_size}
use Rattle.table.specs.Answers.{lent}
use Rattle.table.specs.Region.{splice}
use Rattle.table.specs.declared.answer.Counts.{Counts}
use Rattle.cases_delays.specs.Tables.{arc_bytes, arcs_bytes}

-- four arcs, one behind the other
pub four_arcs : (a b c d w x y z : List ℕ) → w ≡ splice 0 (arc_bytes a) (replicate (4 * arc_size) 0) → x ≡ splice arc_size (arc_bytes b) w → y ≡ splice (2 * arc_size) (arc_bytes c) x
    → z ≡ splice (3 * arc_size) (arc_bytes d) y → z ≡ arcs_bytes a b c d
unfolding splice
four_arcs a b c d w x y z e f g h = rw (h, g, f, e)

-- a table that is sound stays so when its bytes are replaced by equal ones
pub sound_lent : (n : Counts) (states arcs ss rs : List ℕ) → ss ≡ states → rs ≡ arcs → Sound (lent n states arcs) → Sound (lent n ss rs)
sound_lent n states arcs ss rs e f s = rw (e, f) s
