-- Codes of vertices that tell them apart.
use Rattle.std.specs.Prelude.{◌≡◌, Bool, List, ℕ}
use Rattle.automata.specs.Lists.{◌∈◌, same_list}

module _ {C : Type 0} (code : C → List ℕ) (same : C → C → Bool) where
  -- the codes tell v from the vertices of the list
  abbrev pub Tells : C → List C → Type 0
  Tells v vs = (u : C) → u ∈ vs → same v u ≡ same_list (code v) (code u)
