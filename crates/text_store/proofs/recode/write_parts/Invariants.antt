use mathlib.Core.Path.{◌≡◌}
use mathlib.Core.List.{List}
use Prim.Native.Nat.{ℕ, ◌+◌, ◌-◌, ◌*◌}
use lib.ListN.{drop}
use Rattle.table.specs.Region.{splice}
use Rattle.text_store.specs.Recode.{recoded, Writes}
use Rattle.text_store.proofs.recode.write_parts.Given as goal

abbrev pub invariant-loop-part : goal.invariant-loop-part
invariant-loop-part g l =
    (l.at ≡ l.width * l._part) × (l.to ≡ l.start + l.size * l._part)
    × ((recode : List ℕ → List ℕ) → Writes g.F.Fn l.write l.width l.size recode
    → splice l.to (recoded recode l.width (l.count - l._part) (drop l.at l.parts)) l.out ≡ splice l.start (recoded recode l.width l.count l.parts) l.initial.out)
