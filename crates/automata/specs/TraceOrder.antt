-- The order of paths (document 02, 2.3): fewer arcs first, then the lower starting state, then at the first difference
-- the lower arc number.
use Rattle.std.specs.Prelude.{◌≡◌, ◌⊎◌, List, [], ◌∷◌, ℕ, ◌<◌, length}
use Rattle.automata.specs.Paths.{Trace}

-- at the first difference of two runs the first has the lower arc number
abbrev pub RunBefore : List ℕ → List ℕ → Type 0
RunBefore [] s = ⊥
RunBefore (d ∷ r) [] = ⊥
RunBefore (d ∷ r) (e ∷ s) = (d < e) ⊎ ((d ≡ e) × RunBefore r s)

-- the first path comes before the second
abbrev pub Before : Trace → Trace → Type 0
Before π ρ = (length π.run < length ρ.run)
    ⊎ ((length π.run ≡ length ρ.run) × ((π.start < ρ.start) ⊎ ((π.start ≡ ρ.start) × RunBefore π.run ρ.run)))
