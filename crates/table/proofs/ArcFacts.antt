-- Facts of the fields of an arc's record.
use mathlib.Core.Path.{◌≡◌, ap, ◌∙◌}
use mathlib.Core.List.{List, ◌++◌}
use Prim.Native.Nat.{ℕ, ◌+◌, ◌-◌, ◌≤◌}
use lib.ListN.{length, take, drop}
use native.Mathlib.Omega.{arith}
use Rattle.automata.specs.Layout.{target_place, content_size, arc_size}
use Rattle.table.specs.Region.{part, splice}
use Rattle.table.specs.Endian.{to_le}
use Rattle.table.proofs.RegionFacts.{splice-behind}

-- the source written, and the target behind it
pub ends_stored : (at source target : ℕ) (xs us vs : List ℕ) → at + arc_size ≤ length xs → us ≡ splice at (to_le 2 source) xs
    → vs ≡ splice (at + target_place) (to_le 2 target) us → vs ≡ splice at (to_le 2 source ++ to_le 2 target) xs
ends_stored at source target xs us vs h e f =
    splice-behind at (at + target_place) (to_le 2 source) (to_le 2 target) xs us vs e f (omega arith) (omega arith)

-- a content copied as a part of the bytes
pub content_copied : (place to : ℕ) (arcs xs us : List ℕ) → us ≡ splice to (take (place + content_size - place) (drop place arcs)) xs
    → us ≡ splice to (part place content_size arcs) xs
unfolding part
content_copied place to arcs xs us e =
    let n : place + content_size - place ≡ content_size = omega arith in
    e ∙ ap (λ (i : ℕ). splice to (take i (drop place arcs)) xs) n
