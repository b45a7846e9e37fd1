-- The starts of paths and the arcs of a cell: the first part stays, and the numbers still hang together.
use mathlib.Core.Path.{◌≡◌, refl, ◌∙◌}
use mathlib.Core.Option.{Option, none, some}
use Prim.Native.Nat.{ℕ, zero, suc, ◌+◌, ◌≤◌, ◌<◌}
use native.Mathlib.Omega.{arith}
use lib.ListN.{take}
use Rattle.lookup_moves.specs.Distances.{far}
use Rattle.path_search.specs.Search.{Search, no_arc, entered, enter_starts, follow, follow_arcs}
use Rattle.path_search.specs.FirstPath.{Kept}
use Rattle.path_search.proofs.EnterFacts.{enter_front, enter_kept}

module _ (cells : ℕ) where
  -- the first part stays
  entered_front : (e : ℕ) (o : Option ℕ) (s : Search) → take cells (entered cells e o s).numbers ≡ take cells s.numbers
  entered_front e none s = refl
  entered_front e (some c) s = enter_front cells e c s

  -- the numbers still hang together, where the cell is one of the cells and e is below `far`
  entered_kept : (e : ℕ) (o : Option ℕ) (s : Search) → ((c : ℕ) → o ≡ some c → (e < far) × (c < cells)) → Kept cells s
      → Kept cells (entered cells e o s)
  entered_kept e none s lt k = k
  entered_kept e (some c) s lt k = let (small, l) = lt c refl in enter_kept cells e c s k l small

  module _ (start : ℕ → Option ℕ) where
    -- of the cells at which paths start: the first part stays
    pub starts_front : (k q : ℕ) (s : Search) → take cells (enter_starts cells start k q s).numbers ≡ take cells s.numbers
    unfolding enter_starts
    starts_front zero q s = refl
    starts_front (suc k) q s =
        starts_front k (q + 1) (entered cells no_arc (start q) s) ∙ entered_front no_arc (start q) s

    -- the numbers still hang together
    pub starts_kept : {states : ℕ} → ((q c : ℕ) → start q ≡ some c → (q < states) × (c < cells)) → (k q : ℕ) (s : Search)
        → Kept cells s → Kept cells (enter_starts cells start k q s)
    unfolding enter_starts
    starts_kept lt zero q s kept = kept
    starts_kept lt (suc k) q s kept =
        starts_kept lt k (q + 1) (entered cells no_arc (start q) s)
        (entered_kept no_arc (start q) s (λ c e. (omega arith, (lt q c e).1)) kept)

  module _ (next : ℕ → ℕ → Option ℕ) where
    -- of an arc: the first part stays
    pub follow_front : (c e : ℕ) (s : Search) → take cells (follow cells next c e s).numbers ≡ take cells s.numbers
    unfolding follow
    follow_front c e s = entered_front e (next c e) s

    -- of the arcs of a cell: the first part stays
    pub follow_arcs_front : (k c e : ℕ) (s : Search) → take cells (follow_arcs cells next k c e s).numbers ≡ take cells s.numbers
    unfolding follow_arcs
    follow_arcs_front zero c e s = refl
    follow_arcs_front (suc k) c e s = follow_arcs_front k c (e + 1) (follow cells next c e s) ∙ follow_front c e s

    module _ {arcs : ℕ} (next-lt : (c e d : ℕ) → next c e ≡ some d → (e < arcs) × (d < cells)) (arcs-few : arcs ≤ 65535) where
      -- the numbers still hang together behind an arc
      pub follow_kept : (c e : ℕ) (s : Search) → Kept cells s → Kept cells (follow cells next c e s)
      unfolding follow
      follow_kept c e s kept = entered_kept e (next c e) s (λ d p. let (l, m) = next-lt c e d p in (omega arith, m)) kept

      -- and behind the arcs of a cell
      pub follow_arcs_kept : (k c e : ℕ) (s : Search) → Kept cells s → Kept cells (follow_arcs cells next k c e s)
      unfolding follow_arcs
      follow_arcs_kept zero c e s kept = kept
      follow_arcs_kept (suc k) c e s kept = follow_arcs_kept k c (e + 1) (follow cells next c e s) (follow_kept c e s kept)
