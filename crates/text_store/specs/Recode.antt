-- The parts of one width that stand in a list one after the other, each written in another form.
use denote.Ref.{Bor, MutBor}
use denote.Param.Members.{Shared}
use Rattle.table.specs.Region.{splice}
use Rattle.std.specs.Prelude.{◌≡◌, ◌+◌, ◌≤◌, length, List, [], ◌++◌, ℕ, zero, suc, take, drop}

module _ (recode : List ℕ → List ℕ) (width : ℕ) where
  -- the first n parts, each in its other form
  unfoldable pub recoded : ℕ → List ℕ → List ℕ
  recoded zero x = []
  recoded (suc n) x = recode (take width x) ++ recoded n (drop width x)

-- ---- what writes one part in its other form

-- it may be called at a part and at each place of the output with room for the other form
abbrev pub TakesParts : {F : Type 0} → Shared F (Bor (List ℕ) × (MutBor (List ℕ) × (ℕ × Unit {0}))) (Unit {0} × (MutBor (List ℕ) × Unit {0})) → F → ℕ → ℕ → Type 0
TakesParts g f width size = (part : Bor (List ℕ)) (out : MutBor (List ℕ)) (at : ℕ) → length part.now ≡ width → at + size ≤ length out.now → g.pre f (part, (out, (at, tt)))

-- each call writes the other form of its part, which has one size
pub record Writes {F : Type 0} (g : Shared F (Bor (List ℕ) × (MutBor (List ℕ) × (ℕ × Unit {0}))) (Unit {0} × (MutBor (List ℕ) × Unit {0}))) (f : F) (width size : ℕ) (recode : List ℕ → List ℕ) : Type 0 where
  pub sized : (part : List ℕ) → length part ≡ width → length (recode part) ≡ size
  pub gives : (part : Bor (List ℕ)) (out left : MutBor (List ℕ)) (at : ℕ) → g.post f (part, (out, (at, tt))) (tt, (left, tt)) → left.now ≡ splice at (recode part.now) out.now

-- so many parts from a place of a list on are written from a place of the output on, in whatever form each call writes
abbrev pub Recodes : {F : Type 0} → Shared F (Bor (List ℕ) × (MutBor (List ℕ) × (ℕ × Unit {0}))) (Unit {0} × (MutBor (List ℕ) × Unit {0})) → F → ℕ → ℕ → ℕ → ℕ → List ℕ → List ℕ → List ℕ → Type 0
Recodes g f width size count start parts old new = (recode : List ℕ → List ℕ) → Writes g f width size recode → new ≡ splice start (recoded recode width count parts) old
