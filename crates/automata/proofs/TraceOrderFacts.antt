-- The order of paths is strict: of two paths not both come before the other.
use mathlib.Core.Logic.{inl, inr}
use mathlib.Core.List.{List, [], ◌∷◌}
use Prim.Native.Nat.{ℕ}
use native.Mathlib.Omega.{arith}
use Rattle.automata.specs.Paths.{Trace}
use Rattle.automata.specs.TraceOrder.{RunBefore, Before}

run_before_asym : (r s : List ℕ) → RunBefore r s → RunBefore s r → ⊥
run_before_asym [] s h k = h
run_before_asym (d ∷ r) [] h k = h
run_before_asym (d ∷ r) (e ∷ s) (inl h) (inl k) = omega arith
run_before_asym (d ∷ r) (e ∷ s) (inl h) (inr (p, k)) = omega arith
run_before_asym (d ∷ r) (e ∷ s) (inr (p, h)) (inl k) = omega arith
run_before_asym (d ∷ r) (e ∷ s) (inr (p, h)) (inr (q, k)) = run_before_asym r s h k

pub before_asym : (π ρ : Trace) → Before π ρ → Before ρ π → ⊥
before_asym π ρ (inl h) (inl k) = omega arith
before_asym π ρ (inl h) (inr (p, k)) = omega arith
before_asym π ρ (inr (p, h)) (inl k) = omega arith
before_asym π ρ (inr (p, inl h)) (inr (q, inl k)) = omega arith
before_asym π ρ (inr (p, inl h)) (inr (q, inr (e, k))) = omega arith
before_asym π ρ (inr (p, inr (e, h))) (inr (q, inl k)) = omega arith
before_asym π ρ (inr (p, inr (e, h))) (inr (q, inr (f, k))) = run_before_asym π.run ρ.run h k
