-- Where the marks lead back from a cell to the start of a path, the path's arcs are counted and its run is found.
use mathlib.Core.Path.{◌≡◌, refl, sym, ap, ap₂, ◌∙◌}
use mathlib.Core.Logic.{inl, inr}
use mathlib.Core.Option.{Option, some}
use mathlib.Core.List.{List, [], ◌∷◌, ◌++◌, append_assoc}
use Prim.Native.Nat.{ℕ, zero, suc, ◌*◌, ◌%◌, ◌≤◌, ◌<◌}
use native.Mathlib.Omega.{arith}
use lib.ListN.{length, length-append}
use borrow.Author.Tests.{eq-eqb, ne_eqb}
use Rattle.table.specs.declared.answer.Counts.{Counts}
use Rattle.lookup_moves.specs.declared.spot.Spans.{Spans}
use Rattle.path_search.specs.Search.{no_arc}
use Rattle.path_search.specs.FirstPath.{Back, at_start, behind}
use Rattle.path_search.specs.Tight.{shift_of, cell_before}
use Rattle.path_search.specs.Trail.{Behind, mark_of, found_from, count_back, run_back, CanCount, CanWalk}

-- one more arc
length_arc : (run : List ℕ) (e : ℕ) → length (run ++ (e ∷ [])) ≡ suc (length run)
length_arc run e = length-append run (e ∷ []) ∙ omega arith

-- Arcs of the table lead by `next` from cell to cell and paths start by `start` at cells, all of them cells of the
-- table; the cell from which an arc leads is the one before, as far back as its labels reach.
module _ (c : Counts) (arcs : List ℕ) (spans : Spans) (xs : List ℕ) (next : ℕ → ℕ → Option ℕ) (start : ℕ → Option ℕ)
    (next-lt : (b e d : ℕ) → next b e ≡ some d → (e < c.arcs) × (d < c.states * spans.all))
    (start-lt : (q d : ℕ) → start q ≡ some d → (q < c.states) × (d < c.states * spans.all))
    (before-is : (b e d : ℕ) → next b e ≡ some d → cell_before c arcs spans e d ≡ b)
    (shift_fits : (b e d : ℕ) → next b e ≡ some d → shift_of c arcs spans.spans e ≤ d % spans.all)
    (few : c.arcs ≤ 8192) where
  module _ (b e d : ℕ) (n : next b e ≡ some d) (m : mark_of c arcs spans xs d ≡ e) where
    -- the cell from which a cell was found
    found_is : found_from c arcs spans xs d ≡ b
    found_is = ap (λ (x : ℕ). cell_before c arcs spans x d) m ∙ before-is b e d n

    -- no start
    no_start : mark_of c arcs spans xs d ≡ no_arc → ⊥
    no_start z = omega (arith, z, m, few, (next-lt b e d n).0)

    -- the arc by which it was found
    arc-behind : Behind c arcs spans (mark_of c arcs spans xs d) d
    arc-behind = record { arc = rw m (next-lt b e d n).0; reaches = rw m (shift_fits b e d n) }

  -- the arcs are counted
  pub back_counts : {q : ℕ} {run : List ℕ} {d : ℕ} → Back next start (c.states * spans.all) xs q run d → (k : ℕ)
      → length run < k → count_back c arcs spans xs k d ≡ length run
  unfolding count_back
  back_counts b zero h = absurd (omega arith)
  back_counts {d = d} (at_start s m) (suc k) h = rw (eq-eqb (mark_of c arcs spans xs d) no_arc m)
  back_counts {d = d} (behind {r = r} {b = b} e l n m) (suc k) h =
      let i = back_counts l k (omega (arith, length_arc r e)) in
      rw (ne_eqb (mark_of c arcs spans xs d) no_arc (no_start b e d n m), found_is b e d n m, i) (sym (length_arc r e))

  -- they can be
  pub can_count : {q : ℕ} {run : List ℕ} {d : ℕ} → Back next start (c.states * spans.all) xs q run d → (k : ℕ)
      → length run < k → CanCount c arcs spans xs k d
  can_count b zero h = absurd (omega arith)
  can_count {q} {d = d} (at_start s m) (suc k) h = ((start-lt q d s).1, inl m)
  can_count {d = d} (behind {r = r} {b = b} e l n m) (suc k) h =
      ((next-lt b e d n).1, inr (arc-behind b e d n m, rw (found_is b e d n m) (can_count l k (omega (arith, length_arc r e)))))

  -- the run and the cell at which it starts are found
  pub back_runs : {q : ℕ} {run : List ℕ} {d : ℕ} → Back next start (c.states * spans.all) xs q run d → (more : List ℕ)
      → (f : ℕ) × (start q ≡ some f) × (run_back c arcs spans xs (length run) d more ≡ (run ++ more, f))
  unfolding run_back
  back_runs {d = d} (at_start s m) more = (d, s, refl)
  back_runs {d = d} (behind {r = r} {b = b} e l n m) more =
      let (f, s, i) = back_runs l (e ∷ more) in (
        f,
        s,
        ap (λ (k : ℕ). run_back c arcs spans xs k d more) (length_arc r e)
            ∙ ap₂ (λ (a x : ℕ). run_back c arcs spans xs (length r) a (x ∷ more)) (found_is b e d n m) m ∙ i
            ∙ ap (λ (z : List ℕ). (z, f)) (sym (append_assoc r (e ∷ []) more)),
      )

  -- they can be
  pub can_walk : {q : ℕ} {run : List ℕ} {d : ℕ} → Back next start (c.states * spans.all) xs q run d
      → CanWalk c arcs spans xs (length run) d
  can_walk {q} {d = d} (at_start s m) = (start-lt q d s).1
  can_walk {d = d} (behind {r = r} {b = b} e l n m) =
      rw (length_arc r e) ((next-lt b e d n).1, arc-behind b e d n m, rw (found_is b e d n m) (can_walk l))
