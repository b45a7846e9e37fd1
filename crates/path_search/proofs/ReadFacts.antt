-- What the search reads of the cells: states and targets are those of the table, and the work space is as before where
-- the weights are.
use mathlib.Core.Path.{◌≡◌, refl}
use mathlib.Core.Bool.{Bool, true, false}
use mathlib.Core.Option.{none, some}
use mathlib.Core.List.{List}
use Prim.Native.Nat.{ℕ, ◌+◌, ◌*◌, ◌/◌, ◌<◌}
use native.Mathlib.Omega.{arith}
use native.Mathlib.Nat.{div-lt_iff_lt-mul}
use lib.Arith.{digits_lt}
use lib.Dec.{eqb, ltb}
use lib.ListN.{length, get_or, take}
use borrow.Author.Tests.{ltb-true}
use Rattle.automata.specs.Lists.{if}
use Rattle.automata.proofs.ListFacts.{none_not_some}
use Rattle.table.specs.declared.answer.Counts.{Counts}
use Rattle.lookup_tuple.specs.declared.Strings.{Strings}
use Rattle.lookup_moves.specs.declared.spot.Spans.{Spans}
use Rattle.lookup_moves.specs.Distances.{cells_of}
use Rattle.lookup_moves.specs.Spots.{spot_of}
use Rattle.table.specs.Arcs.{target_of, arc_weight}
use Rattle.lookup_cells.specs.Pushes.{back_by}
use Rattle.path_search.specs.Tight.{end_there, tight_to}
use Rattle.path_search.proofs.KeptFacts.{cell_kept}
use Rattle.path_search.specs.Searchable.{Searchable, Weights}

-- the state of a cell is one of so many
pub state_lt : (n all here : ℕ) → 0 < all → here < n * all → here / all < n
state_lt n all here p l = (div-lt_iff_lt-mul p).1 l

-- the work space is as before where it is as long and the weights are the same
pub weights_kept : (n all : ℕ) (w v : List ℕ) → length w ≡ length v → take (n * all) (cells_of w) ≡ take (n * all) (cells_of v)
    → Weights (n * all) v → Weights (n * all) w
weights_kept n all w v l f h = record {
  room = omega (arith, h.room);
  below = λ k lt. omega (arith, cell_kept n all (cells_of w) (cells_of v) f k lt, h.below k lt);
}

module _ (c : Counts) (arcs text : List ℕ) (s : Strings) (spans : Spans) (h : Searchable c arcs text s spans) where
  -- the target of an arc is one of the states
  pub targets : (e : ℕ) → e < c.arcs → target_of arcs e < c.states
  targets e l = ((h.ready 0 h.some_combination).each e l).target

  -- a tight arc leads to a cell
  pub tight_lt : (ws : List ℕ) (to here e d : ℕ) → e < c.arcs → tight_to c arcs text s spans ws to here e ≡ some d
      → d < c.states * spans.all
  unfolding tight_to
  tight_lt ws to here e d l = go (ltb to spans.all) refl (eqb (arc_weight arcs e + get_or ws there 0) (get_or ws here 0))
      (end_there (back_by c.tapes e arcs text (spot_of s spans to)))
    where
      there : ℕ
      there = target_of arcs e * spans.all + to

      go : (a : Bool) → ltb to spans.all ≡ a → (b f : Bool) → if a (if b (if f (some there) none) none) none ≡ some d
          → d < c.states * spans.all
      go true t true true p =
          let q : there ≡ d = cc in
          let lt : there < c.states * spans.all = digits_lt (targets e l) (ltb-true to spans.all t) in
          omega (arith, lt)
      go true t true false p = none_not_some refl p
      go true t false f p = none_not_some refl p
      go false t b f p = none_not_some refl p
