-- What a search means in a list of the codes of vertices: it answers the place of the vertex.
use Prim.Native.Nat.{ℕ, zero, suc, ◌+◌}
use mathlib.Core.Path.{◌≡◌, refl, ap, ◌∙◌}
use mathlib.Core.List.{List, [], ◌∷◌, map}
use mathlib.Core.Bool.{Bool, true, false}
use native.Mathlib.Omega.{arith}
use native.Mathlib.Nat.{add-zero}
use Rattle.automata.specs.Lists.{if, or, here, there, same_list}
use Rattle.automata.specs.Explore.{member, index_of}
use Rattle.std.specs.Prelude.{Some, None}
use Rattle.search_rows.specs.Find.{Found, index_from}
use Rattle.search_rows.specs.Inserted.{Tells}

module _ {C : Type 0} (code : C → List ℕ) (same : C → C → Bool) where
  -- what the search over codes finds
  abbrev found_by : ℕ → Bool → ℕ → Found
  found_by i b k = if b (Some (record { 0 = i + k })) None

  -- the search for the code of v answers the place of v
  pub index_codes : (i : ℕ) (v : C) (vs : List C) → Tells code same v vs
      → index_from i (code v) (map code vs) ≡ found_by i (member same v vs) (index_of same v vs)
  unfolding index_from
  index_codes i v [] t = refl
  index_codes i v (u ∷ vs) t = go (same v u) (t u (here refl)) (index_codes (i + 1) v vs (λ w m. t w (there m)))
    where
      more : (b : Bool) (k : ℕ) → found_by (i + 1) b k ≡ found_by i b (suc k)
      more true k = let e : i + 1 + k ≡ i + suc k = omega arith in ap (λ (n : ℕ). Some (record { 0 = n })) e
      more false k = refl

      go : (b : Bool) → b ≡ same_list (code v) (code u) → index_from (i + 1) (code v) (map code vs) ≡ found_by (i + 1) (member same v vs) (index_of same v vs)
          → if (same_list (code v) (code u)) (Some (record { 0 = i })) (index_from (i + 1) (code v) (map code vs))
          ≡ found_by i (or b (member same v vs)) (if b zero (suc (index_of same v vs)))
      go true e ih = rw (← e, add-zero)
      go false e ih = rw (← e) (ih ∙ more (member same v vs) (index_of same v vs))
