-- The search from the starts: tight arcs and ends by the cells after the starts are found are those by the cells
-- before.
use mathlib.Core.Path.{◌≡◌, refl, sym, ap, ap₂, subst, ◌∙◌}
use mathlib.Core.Bool.{Bool, true, false}
use mathlib.Core.Option.{Option, none, some}
use mathlib.Core.List.{List}
use Prim.Native.Nat.{ℕ, zero, suc, ◌+◌, ◌*◌, ◌≤◌, ◌<◌}
use native.Mathlib.Omega.{arith}
use lib.Dec.{ltb}
use lib.ListN.{length, take}
use borrow.Author.Tests.{ltb-true}
use Rattle.automata.specs.Lists.{if}
use Rattle.table.specs.declared.answer.Counts.{Counts}
use Rattle.lookup_tuple.specs.declared.Strings.{Strings}
use Rattle.lookup_moves.specs.declared.spot.Spans.{Spans}
use Rattle.lookup_moves.specs.Distances.{cells_of}
use Rattle.path_search.specs.Search.{Search, search_of, order_at, enter_starts, follow_arcs, search_from}
use Rattle.path_search.specs.FirstPath.{Kept}
use Rattle.path_search.proofs.FollowFacts.{starts_front, starts_kept, follow_arcs_kept}
use Rattle.path_search.specs.Tight.{next_cell, start_cell, end_cell}
use Rattle.path_search.proofs.TightArcFacts.{next_lt, start_lt}
use Rattle.path_search.proofs.KeptFacts.{next_kept, end_kept}
use Rattle.path_search.specs.Searchable.{Searchable, Weights}
use Rattle.path_search.proofs.ReadFacts.{targets, weights_kept}
use Rattle.path_search.proofs.FollowArcsFacts.{follow_arcs_same}

-- ---- the same arcs and ends

module _ (cells : ℕ) (next other : ℕ → ℕ → Option ℕ) (arcs : ℕ) (end stop : ℕ → Bool)
    (other-lt : (b e d : ℕ) → other b e ≡ some d → (e < arcs) × (d < cells)) (few : arcs ≤ 65535)
    (same : (b e : ℕ) → b < cells → next b e ≡ other b e) (ends : (d : ℕ) → d < cells → end d ≡ stop d) where
  -- where the same arcs lead from the cells, and the same cells are ends, the search is the same
  search_same : (k head : ℕ) (s : Search) → Kept cells s → search_from cells next arcs end k head s ≡ search_from cells other arcs stop k head s
  unfolding search_from
  search_same zero head s kept = refl
  search_same (suc k) head s kept = go (ltb head s.tail) refl (search_same k (head + 1))
    where
      here : ℕ
      here = order_at cells s.numbers head

      go : (b : Bool) → ltb head s.tail ≡ b
          → ((x : Search) → Kept cells x → search_from cells next arcs end k (head + 1) x ≡ search_from cells other arcs stop k (head + 1) x)
          → if b (if (end here) (some here, s) (search_from cells next arcs end k (head + 1) (follow_arcs cells next arcs here 0 s))) (none, s)
          ≡ if b (if (stop here) (some here, s) (search_from cells other arcs stop k (head + 1) (follow_arcs cells other arcs here 0 s))) (none, s)
      go false e ih = refl
      go true e ih =
          let lt : here < cells = kept.cell head (ltb-true head s.tail e) in
          ap₂ (λ (b : Bool) (x : Option ℕ × Search). if b (some here, s) x) (ends here lt)
          (ap (search_from cells next arcs end k (head + 1)) (follow_arcs_same cells next other here (λ a. same here a lt) arcs 0 s)
          ∙ ih (follow_arcs cells other arcs here 0 s) (follow_arcs_kept cells other other-lt few arcs here 0 s kept))

-- ---- the starts, then the search

module _ (c : Counts) (states arcs text : List ℕ) (s : Strings) (spans : Spans) (h : Searchable c arcs text s spans) (least : ℕ) (v : List ℕ)
    (kept : Kept (c.states * spans.all) (search_of (cells_of v) 0)) (n : ℕ) (w : List ℕ)
    (e : search_of (cells_of w) n
    ≡ enter_starts (c.states * spans.all) (start_cell c.states states spans.all (cells_of v) least) c.states 0 (search_of (cells_of v) 0)) where
  -- the number of cells, and where paths start
  abbrev cells : ℕ
  cells = c.states * spans.all

  abbrev start : ℕ → Option ℕ
  start = start_cell c.states states spans.all (cells_of v) least

  -- the weights are as before
  front : take cells (cells_of w) ≡ take cells (cells_of v)
  front = ap (λ (x : Search). take cells x.numbers) e ∙ starts_front cells start c.states 0 (search_of (cells_of v) 0)

  pub started_kept : Kept cells (search_of (cells_of w) n)
  started_kept = subst (Kept cells) (sym e)
      (starts_kept cells start (start_lt c.states states spans.all h.some_combination (cells_of v) least) c.states 0 (search_of (cells_of v) 0) kept)

  pub started_weights : length w ≡ length v → Weights cells v → Weights cells w
  started_weights l = weights_kept c.states spans.all w v l front

  -- so the search is that by the cells before
  pub cells_searched : (r : Option ℕ × Search)
      → r ≡ search_from cells (next_cell c arcs text s spans (cells_of w)) c.arcs (end_cell states spans.all (cells_of w)) cells 0 (search_of (cells_of w) n)
      → r ≡ search_from cells (next_cell c arcs text s spans (cells_of v)) c.arcs (end_cell states spans.all (cells_of v)) cells 0
      (enter_starts cells start c.states 0 (search_of (cells_of v) 0))
  cells_searched r f =
      f ∙ search_same cells (next_cell c arcs text s spans (cells_of w)) (next_cell c arcs text s spans (cells_of v)) c.arcs (end_cell states spans.all (cells_of w))
      (end_cell states spans.all (cells_of v)) (next_lt c arcs text (targets c arcs text s spans h) s spans (cells_of v))
      (omega (arith, (h.ready 0 h.some_combination).few_arcs))
      (λ b a lt. next_kept c arcs text (targets c arcs text s spans h) s spans (cells_of w) (cells_of v) front b a lt)
      (λ d lt. end_kept c.states spans.all (cells_of w) (cells_of v) front states d lt) cells 0 (search_of (cells_of w) n) started_kept
      ∙ ap (search_from cells (next_cell c arcs text s spans (cells_of v)) c.arcs (end_cell states spans.all (cells_of v)) cells 0) e
