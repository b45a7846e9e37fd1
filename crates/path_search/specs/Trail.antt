-- Back from the end of a path to its start, along the marks of the cells found.
use Rattle.std.specs.Prelude.{◌≡◌, ◌⊎◌, List, ◌∷◌, ℕ, zero, suc, ◌*◌, ◌%◌, ◌≤◌, ◌<◌, eqb, length}
use Rattle.automata.specs.Lists.{if}
use Rattle.automata.specs.Layout.{arc_size}
use Rattle.table.specs.declared.answer.Counts.{Counts}
use Rattle.lookup_moves.specs.declared.spot.Spans.{Spans}
use Rattle.lookup_moves.specs.Moves.{Labelled}
use Rattle.path_search.specs.Search.{no_arc, mark_at}
use Rattle.table.specs.Arcs.{source_of, labels_start}
use Rattle.path_search.specs.Tight.{shift_of, cell_before}
use Rattle.path_search.specs.Searchable.{Spannable}

-- the arcs of a table, labelled, each with one of its states as source, and numbers of combinations
pub record Retraceable (c : Counts) (arcs : List ℕ) (spans : Spans) : Type 0 where
  pub spannable : Spannable spans
  pub some_combination : 0 < spans.all
  pub few_tapes : c.tapes ≤ 8
  pub few_arcs : c.arcs ≤ 8192
  pub lent : arc_size * c.arcs ≤ length arcs
  pub labelled : (e : ℕ) → e < c.arcs → Labelled arcs (labels_start (arc_size * e))
  pub source : (e : ℕ) → e < c.arcs → source_of arcs e < c.states
  pub fits : c.states * spans.all < 18446744073709551616

-- an arc of the table whose labels are no longer than a combination is far from the first
pub record Behind (c : Counts) (arcs : List ℕ) (spans : Spans) (e there : ℕ) : Type 0 where
  pub arc : e < c.arcs
  pub reaches : shift_of c arcs spans.spans e ≤ there % spans.all

module _ (c : Counts) (arcs : List ℕ) (spans : Spans) (xs : List ℕ) where
  -- the mark of a cell
  abbrev pub mark_of : ℕ → ℕ
  mark_of at = mark_at (c.states * spans.all) xs at

  -- the cell from which it was found
  abbrev pub found_from : ℕ → ℕ
  found_from at = cell_before c arcs spans (mark_of at) at

  -- how many arcs lead back to a cell that has the mark of a start, at most k
  unfoldable pub count_back : ℕ → ℕ → ℕ
  count_back zero at = 0
  count_back (suc k) at = let more = suc (count_back k (found_from at)) in if (eqb (mark_of at) no_arc) 0 more

  -- the run of the n arcs that lead to a cell, with a run behind it, and the cell at which it starts
  unfoldable pub run_back : ℕ → ℕ → List ℕ → List ℕ × ℕ
  run_back zero at run = (run, at)
  run_back (suc n) at run = run_back n (found_from at) (mark_of at ∷ run)

  -- so many cells back are cells of the table, each found by an arc
  abbrev pub CanWalk : ℕ → ℕ → Type 0
  CanWalk zero at = at < c.states * spans.all
  CanWalk (suc n) at = (at < c.states * spans.all) × Behind c arcs spans (mark_of at) at × CanWalk n (found_from at)

  -- the same, until one has the mark of a start
  abbrev pub CanCount : ℕ → ℕ → Type 0
  CanCount zero at = at < c.states * spans.all
  CanCount (suc k) at = (at < c.states * spans.all) × ((mark_of at ≡ no_arc) ⊎ (Behind c arcs spans (mark_of at) at × CanCount k (found_from at)))
