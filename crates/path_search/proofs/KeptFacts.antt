-- Tight arcs, starts and ends depend on no number past those of the cells.
use mathlib.Core.Path.{◌≡◌, refl, sym, ap, ap₂, ◌∙◌}
use mathlib.Core.Bool.{Bool, true, false}
use mathlib.Core.Option.{Option, none, some}
use mathlib.Core.List.{List}
use Prim.Native.Nat.{ℕ, ◌+◌, ◌*◌, ◌/◌, ◌%◌, ◌<◌}
use lib.Arith.{digits_lt}
use lib.Dec.{eqb, ltb}
use lib.ListN.{get_or, take}
use lib.Seq.{get_or-take}
use borrow.Author.Tests.{ltb-true}
use Rattle.automata.specs.Lists.{if}
use Rattle.automata.specs.Layout.{state_size}
use Rattle.table.specs.Records.{state_at}
use Rattle.table.specs.declared.answer.Counts.{Counts}
use Rattle.lookup_tuple.specs.declared.Strings.{Strings}
use Rattle.lookup_moves.specs.declared.spot.Spans.{Spans}
use Rattle.lookup_moves.specs.Spots.{spot_of}
use Rattle.lookup_cells.specs.Ends.{beginning, from_state}
use Rattle.table.specs.Arcs.{source_of, target_of, arc_weight}
use Rattle.lookup_cells.specs.Pushes.{back_by}
use Rattle.path_search.specs.Tight.{end_there, tight_to, next_cell, start_cell, ends_by, end_cell}
use Rattle.path_search.proofs.TightArcFacts.{number_to}

module _ (n all : ℕ) (ws ws' : List ℕ) (same : take (n * all) ws ≡ take (n * all) ws') where
  -- the number of a cell is the same
  pub cell_kept : (k : ℕ) → k < n * all → get_or ws k 0 ≡ get_or ws' k 0
  cell_kept k lt = sym (get_or-take (n * all) ws k 0 lt) ∙ ap (λ (xs : List ℕ). get_or xs k 0) same ∙ get_or-take (n * all) ws' k 0 lt

  -- so is whether a path ends there
  pub end_kept : (states : List ℕ) (d : ℕ) → d < n * all → end_cell states all ws d ≡ end_cell states all ws' d
  unfolding end_cell
  end_kept states d lt = ap (ends_by (state_at (state_size * (d / all)) states).last all (d % all)) (cell_kept d lt)

  -- and where one starts
  pub start_kept : (states : List ℕ) → 0 < all → (least q : ℕ) → start_cell n states all ws least q ≡ start_cell n states all ws' least q
  unfolding start_cell from_state
  start_kept states positive least q = go (ltb q n) refl
    where
      -- the start at state q, from a test and the number of its first cell
      starting : Bool → ℕ → Option ℕ
      starting b x = if b (if (eqb (beginning (state_at (state_size * q) states).initial x) least) (some (q * all + 0)) none) none

      go : (b : Bool) → ltb q n ≡ b → starting b (get_or ws (q * all + 0) 0) ≡ starting b (get_or ws' (q * all + 0) 0)
      go false e = refl
      go true e = ap (starting true) (cell_kept (q * all + 0) (digits_lt (ltb-true q n e) positive))

module _ (c : Counts) (arcs text : List ℕ) (targets : (e : ℕ) → e < c.arcs → target_of arcs e < c.states) (s : Strings) (spans : Spans) (ws ws' : List ℕ)
    (same : take (c.states * spans.all) ws ≡ take (c.states * spans.all) ws') where
  -- and where a tight arc leads
  pub next_kept : (b e : ℕ) → b < c.states * spans.all → next_cell c arcs text s spans ws b e ≡ next_cell c arcs text s spans ws' b e
  unfolding next_cell tight_to
  next_kept b e lt = go (ltb e c.arcs) refl (ltb to spans.all) refl
    where
      -- the combination there
      to : ℕ
      to = number_to c arcs spans b e

      -- the cell there
      there : ℕ
      there = target_of arcs e * spans.all + to

      -- where the arc leads, from two tests and the numbers of the two cells
      next : Bool → Bool → ℕ → ℕ → Option ℕ
      next i j x y =
          let spells = end_there (back_by c.tapes e arcs text (spot_of s spans to)) in
          let tight = if j (if (eqb (arc_weight arcs e + x) y) (if spells (some there) none) none) none in
          if i (if (eqb (source_of arcs e) (b / spans.all)) tight none) none

      go : (i : Bool) → ltb e c.arcs ≡ i → (j : Bool) → ltb to spans.all ≡ j
          → next i j (get_or ws there 0) (get_or ws b 0) ≡ next i j (get_or ws' there 0) (get_or ws' b 0)
      go false f j g = refl
      go true f false g = refl
      go true f true g =
          let inside : there < c.states * spans.all
          = digits_lt (targets e (ltb-true e c.arcs f)) (ltb-true to spans.all g) in
          ap₂ (next true true) (cell_kept c.states spans.all ws ws' same there inside) (cell_kept c.states spans.all ws ws' same b lt)
