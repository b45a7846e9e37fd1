-- The order of paths and one arc more: the order is transitive, and paths that go on are in the order of those before.
use mathlib.Core.Path.{◌≡◌, refl, ap, ◌∙◌}
use mathlib.Core.Logic.{◌⊎◌, inl, inr}
use mathlib.Core.List.{List, [], ◌∷◌, ◌++◌}
use Prim.Native.Nat.{ℕ, ◌+◌, ◌<◌}
use native.Mathlib.Omega.{arith}
use lib.ListN.{length, length-append}
use Rattle.automata.specs.Paths.{Trace}
use Rattle.automata.specs.TraceOrder.{RunBefore, Before}

-- a path by its starting state and its run
abbrev pub trace_of : ℕ → List ℕ → Trace
trace_of q r = record { start = q; run = r }

-- a path and a run behind it
abbrev pub onward : Trace → List ℕ → Trace
onward π r = trace_of π.start (π.run ++ r)

-- a path and one arc more
abbrev pub and_arc : Trace → ℕ → Trace
and_arc π e = onward π (e ∷ [])

-- it has one arc more
pub arc_length : (π : Trace) (e : ℕ) → length (and_arc π e).run ≡ length π.run + 1
arc_length π e = length-append π.run (e ∷ [])

-- ---- runs

-- a run that comes before another comes before what comes behind that
run_before_trans : (r s t : List ℕ) → RunBefore r s → RunBefore s t → RunBefore r t
run_before_trans [] s t h k = h
run_before_trans (d ∷ r) [] t h k = absurd h
run_before_trans (d ∷ r) (e ∷ s) [] h k = k
run_before_trans (d ∷ r) (e ∷ s) (f ∷ t) (inl h) (inl k) = inl (omega arith)
run_before_trans (d ∷ r) (e ∷ s) (f ∷ t) (inl h) (inr (q, k)) = inl (omega arith)
run_before_trans (d ∷ r) (e ∷ s) (f ∷ t) (inr (p, h)) (inl k) = inl (omega arith)
run_before_trans (d ∷ r) (e ∷ s) (f ∷ t) (inr (p, h)) (inr (q, k)) = inr (p ∙ q, run_before_trans r s t h k)

-- what stands behind two runs does not change their order
run_before_on : (r s u v : List ℕ) → RunBefore r s → RunBefore (r ++ u) (s ++ v)
run_before_on [] s u v h = absurd h
run_before_on (d ∷ r) [] u v h = absurd h
run_before_on (d ∷ r) (e ∷ s) u v (inl h) = inl h
run_before_on (d ∷ r) (e ∷ s) u v (inr (p, h)) = inr (p, run_before_on r s u v h)

-- of two runs that differ in the last arc the one with the lower comes first
run_before_last : (r : List ℕ) (e f : ℕ) → e < f → RunBefore (r ++ (e ∷ [])) (r ++ (f ∷ []))
run_before_last [] e f h = inl h
run_before_last (d ∷ r) e f h = inr (refl, run_before_last r e f h)

-- ---- paths

-- a path that comes before another comes before what comes behind that
before_trans : (π ρ σ : Trace) → Before π ρ → Before ρ σ → Before π σ
before_trans π ρ σ (inl h) (inl k) = inl (omega arith)
before_trans π ρ σ (inl h) (inr (q, k)) = inl (omega arith)
before_trans π ρ σ (inr (p, h)) (inl k) = inl (omega arith)
before_trans π ρ σ (inr (p, inl h)) (inr (q, inl k)) = inr (p ∙ q, inl (omega arith))
before_trans π ρ σ (inr (p, inl h)) (inr (q, inr (f, k))) = inr (p ∙ q, inl (omega arith))
before_trans π ρ σ (inr (p, inr (e, h))) (inr (q, inl k)) = inr (p ∙ q, inl (omega arith))
before_trans π ρ σ (inr (p, inr (e, h))) (inr (q, inr (f, k))) =
    inr (p ∙ q, inr (e ∙ f, run_before_trans π.run ρ.run σ.run h k))

-- paths that go on by an arc are in the order of those before
pub before_arc : (π ρ : Trace) (e f : ℕ) → Before π ρ → Before (and_arc π e) (and_arc ρ f)
before_arc π ρ e f (inl h) = inl (omega (arith, arc_length π e, arc_length ρ f))
before_arc π ρ e f (inr (p, inl h)) = inr (omega (arith, arc_length π e, arc_length ρ f), inl h)
before_arc π ρ e f (inr (p, inr (q, h))) =
    inr (omega (arith, arc_length π e, arc_length ρ f), inr (q, run_before_on π.run ρ.run (e ∷ []) (f ∷ []) h))

-- of two that go on from the same the one by the lower arc comes first
pub before_last : (π : Trace) (e f : ℕ) → e < f → Before (and_arc π e) (and_arc π f)
before_last π e f h = inr (omega (arith, arc_length π e, arc_length π f), inr (refl, run_before_last π.run e f h))

-- a path comes before those that go on from it
before_longer : (π : Trace) (e : ℕ) → Before π (and_arc π e)
before_longer π e = inl (omega (arith, arc_length π e))

-- ---- the same or before

-- the first path is the second or comes before it
abbrev pub NotAfter : Trace → Trace → Type 0
NotAfter π ρ = (π ≡ ρ) ⊎ Before π ρ

-- the first of three that are in order is the last or comes before it
pub not_after_trans : (π ρ σ : Trace) → NotAfter π ρ → NotAfter ρ σ → NotAfter π σ
not_after_trans π ρ σ (inl p) k = rw p k
not_after_trans π ρ σ (inr h) (inl q) = inr (rw q at h)
not_after_trans π ρ σ (inr h) (inr k) = inr (before_trans π ρ σ h k)

-- two in order still are behind the same arc
pub not_after_arc : (π ρ : Trace) (e : ℕ) → NotAfter π ρ → NotAfter (and_arc π e) (and_arc ρ e)
not_after_arc π ρ e (inl p) = inl (ap (λ (σ : Trace). and_arc σ e) p)
not_after_arc π ρ e (inr h) = inr (before_arc π ρ e e h)

-- and where the second goes on
pub not_after_longer : (π ρ : Trace) (e : ℕ) → NotAfter π ρ → NotAfter π (and_arc ρ e)
not_after_longer π ρ e h = not_after_trans π ρ (and_arc ρ e) h (inr (before_longer ρ e))
