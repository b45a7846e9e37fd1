-- The bounds of a search, one step after the other.
use Prim.Native.Nat.{ℕ, ◌+◌, ◌≤◌}
use mathlib.Core.Path.{refl, ◌∙◌}
use mathlib.Core.List.{List}
use native.Mathlib.Omega.{arith}
use Rattle.search_rows.specs.Progress.{Progress, Grows, Widens}

module _ (room : ℕ) where
  -- nothing happened
  pub grows_none : (n : ℕ) (h : Progress) (v : List ℕ) → h.reached ≤ room → Grows room n h v h v
  grows_none n h v f = record { taken = refl; grown = omega arith; fits = f; few = omega arith; same_length = refl }

  -- one after the other
  pub grows_then : (n m k : ℕ) (h g r : Progress) (v u w : List ℕ) → Grows room n h v g u → Grows room m g u r w → n + m ≤ k → Grows room k h v r w
  grows_then n m k h g r v u w a b l = record {
    taken = b.taken ∙ a.taken;
    grown = omega (arith, a.grown, b.grown);
    fits = b.fits;
    few = omega (arith, a.few, b.few, l);
    same_length = b.same_length ∙ a.same_length;
  }

  -- with a wider bound
  pub grows_wider : (n k : ℕ) (h r : Progress) (v w : List ℕ) → Grows room n h v r w → n ≤ k → Grows room k h v r w
  grows_wider n k h r v w a l = record { taken = a.taken; grown = a.grown; fits = a.fits; few = omega (arith, a.few, l); same_length = a.same_length }

  -- nothing was entered
  pub widens_none : (h : Progress) (v : List ℕ) → h.reached ≤ room → Widens room h v h v
  widens_none h v f = record { taken = refl; arcs = refl; fits = f; same_length = refl }

  -- some after others
  pub widens_then : (h g r : Progress) (v u w : List ℕ) → Widens room h v g u → Widens room g u r w → Widens room h v r w
  widens_then h g r v u w a b = record { taken = b.taken ∙ a.taken; arcs = b.arcs ∙ a.arcs; fits = b.fits; same_length = b.same_length ∙ a.same_length }
