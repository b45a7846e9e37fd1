-- What the tests for tight arcs, for the starts of least paths and for their ends say, and the numbers of the cells
-- that they lead to.
use mathlib.Core.Path.{◌≡◌, refl, sym, ap, ap₂, subst, ◌∙◌}
use mathlib.Core.Bool.{Bool, true, false, false≢true}
use mathlib.Core.Option.{Option, none, some, some-injective}
use mathlib.Core.List.{List}
use Prim.Native.Nat.{ℕ, ◌+◌, ◌-◌, ◌*◌, ◌/◌, ◌%◌, ◌≤◌, ◌<◌}
use native.Mathlib.Nat.{div-add-mod'}
use native.Mathlib.Omega.{arith}
use lib.Arith.{digits_lt, digits_div, digits_mod}
use lib.Dec.{eqb, ltb}
use lib.ListN.{get_or}
use borrow.Author.Tests.{ltb-true, lt-ltb, eqb-true, eq-eqb}
use Rattle.automata.specs.Lists.{if}
use Rattle.automata.specs.Automaton.{Tuple}
use Rattle.automata.proofs.ListFacts.{none_not_some}
use Rattle.automata.proofs.TestFacts.{and_true}
use Rattle.automata.specs.Layout.{state_size}
use Rattle.table.specs.Records.{state_at}
use Rattle.table.specs.declared.answer.Counts.{Counts}
use Rattle.table.specs.Records.{Weight}
use Rattle.std.specs.Prelude.{None, Some}
use Rattle.lookup_tuple.specs.declared.Strings.{Strings}
use Rattle.lookup_tuple.specs.Strings.{Stands}
use Rattle.lookup_moves.specs.declared.spot.Spans.{Spans}
use Rattle.lookup_moves.specs.Spots.{Spanned, spot_of}
use Rattle.lookup_cells.specs.Ends.{from_state}
use Rattle.table.specs.Arcs.{source_of, target_of, arc_weight}
use Rattle.lookup_cells.specs.Pushes.{back_by}
use Rattle.lookup_cells.proofs.MoveMeaning.{combinations_positive}
use Rattle.lookup_cells.proofs.SpotMeaning.{all_at}
use Rattle.path_search.specs.Tight.{shift_of, end_there, tight_to, next_cell, cell_before, start_cell, ends_by, end_cell}

-- ---- what the tests say

-- what a test lets through
pub if_some : (b : Bool) (o : Option ℕ) {a : ℕ} → if b o none ≡ some a → (b ≡ true) × (o ≡ some a)
if_some true o e = (refl, e)
if_some false o e = none_not_some refl e

-- where labels end, they lead so far back
pub ends_there : (o : Option ℕ) → end_there o ≡ true → (k : ℕ) × (o ≡ some k)
ends_there none e = absurd (false≢true e)
ends_there (some k) e = (k, refl)

-- the number of the combination to which the labels of arc e lead from a cell
abbrev pub number_to : Counts → List ℕ → Spans → ℕ → ℕ → ℕ
number_to c arcs spans here e = here % spans.all + shift_of c arcs spans.spans e

module _ (c : Counts) (arcs text : List ℕ) (s : Strings) (spans : Spans) (ws : List ℕ) where
  -- the same for the arcs of one table
  abbrev to : ℕ → ℕ → ℕ
  to = number_to c arcs spans

  -- arc e is tight from a cell to another
  pub record TightArc (here e there : ℕ) : Type 0 where
    pub in_table : e < c.arcs
    pub from : source_of arcs e ≡ here / spans.all
    pub fits : to here e < spans.all
    pub weighs : arc_weight arcs e + get_or ws there 0 ≡ get_or ws here 0
    pub spells : end_there (back_by c.tapes e arcs text (spot_of s spans (to here e))) ≡ true
    pub there_is : there ≡ target_of arcs e * spans.all + to here e

  -- what it says that a cell is next
  pub next_tight : (here e there : ℕ) → next_cell c arcs text s spans ws here e ≡ some there → TightArc here e there
  unfolding next_cell tight_to
  next_tight here e there h =
      let there' : ℕ = target_of arcs e * spans.all + to here e in
      let (t₁, h₁) = if_some (ltb e c.arcs) _ h in
      let (t₂, h₂) = if_some (eqb (source_of arcs e) (here / spans.all)) _ h₁ in
      let (t₃, h₃) = if_some (ltb (to here e) spans.all) _ h₂ in
      let (t₄, h₄) = if_some (eqb (arc_weight arcs e + get_or ws there' 0) (get_or ws here 0)) _ h₃ in
      let (t₅, h₅) = if_some (end_there (back_by c.tapes e arcs text (spot_of s spans (to here e)))) _ h₄ in
      let same : there' ≡ there = some-injective there' there h₅ in record {
        in_table = ltb-true e c.arcs t₁;
        from = eqb-true (source_of arcs e) (here / spans.all) t₂;
        fits = ltb-true (to here e) spans.all t₃;
        weighs = ap (λ (k : ℕ). arc_weight arcs e + get_or ws k 0) (sym same) ∙ eqb-true (arc_weight arcs e + get_or ws there' 0) (get_or ws here 0) t₄;
        spells = t₅;
        there_is = sym same;
      }

  -- and the other way round
  pub tight_next : (here e there : ℕ) → TightArc here e there → next_cell c arcs text s spans ws here e ≡ some there
  unfolding next_cell tight_to
  tight_next here e there x =
      let there' : ℕ = target_of arcs e * spans.all + to here e in
      let weighs : arc_weight arcs e + get_or ws there' 0 ≡ get_or ws here 0 = ap (λ (k : ℕ). arc_weight arcs e + get_or ws k 0) (sym x.there_is) ∙ x.weighs in
      rw (
        lt-ltb e c.arcs x.in_table,
        eq-eqb (source_of arcs e) (here / spans.all) x.from,
        lt-ltb (to here e) spans.all x.fits,
        eq-eqb (arc_weight arcs e + get_or ws there' 0) (get_or ws here 0) weighs,
        x.spells,
      ) (ap some (sym x.there_is))

module _ (n : ℕ) (states : List ℕ) (all : ℕ) (ws : List ℕ) (least : ℕ) where
  -- from a state on, one of n, the least weight is attained
  pub start_says : (q d : ℕ) → start_cell n states all ws least q ≡ some d → (q < n) × (from_state states all ws q ≡ least) × (d ≡ q * all + 0)
  unfolding start_cell
  start_says q d h =
      let (t₁, h₁) = if_some (ltb q n) _ h in
      let (t₂, h₂) = if_some (eqb (from_state states all ws q) least) _ h₁ in
      (ltb-true q n t₁, eqb-true (from_state states all ws q) least t₂, sym (some-injective (q * all + 0) d h₂))

  -- and the other way round
  pub says_start : (q : ℕ) → q < n → from_state states all ws q ≡ least → start_cell n states all ws least q ≡ some (q * all + 0)
  unfolding start_cell
  says_start q lt e = rw (lt-ltb q n lt, eq-eqb (from_state states all ws q) least e)

module _ (states : List ℕ) (all : ℕ) (ws : List ℕ) where
  -- the final weight of the state of a cell is what is left, and the cell is at the last combination
  pub end_says : (d : ℕ) → end_cell states all ws d ≡ true → ((state_at (state_size * (d / all)) states).last ≡ Some (get_or ws d 0)) × (d % all + 1 ≡ all)
  unfolding end_cell
  end_says d h = go (state_at (state_size * (d / all)) states).last h
    where
      go : (x : Weight) → ends_by x all (d % all) (get_or ws d 0) ≡ true → (x ≡ Some (get_or ws d 0)) × (d % all + 1 ≡ all)
      go None e = absurd (false≢true e)
      go (Some w) e =
          let (t₁, t₂) = and_true (eqb (d % all + 1) all) (eqb w (get_or ws d 0)) e in
          (ap Some (eqb-true w (get_or ws d 0) t₂), eqb-true (d % all + 1) all t₁)

  -- and the other way round
  pub says_end : (d : ℕ) → (state_at (state_size * (d / all)) states).last ≡ Some (get_or ws d 0) → d % all + 1 ≡ all → end_cell states all ws d ≡ true
  unfolding end_cell
  says_end d e l = rw (e, eq-eqb (d % all + 1) all l, eq-eqb (get_or ws d 0) (get_or ws d 0) refl)

-- ---- the numbers of cells

-- there is a combination
pub all_positive : (text : List ℕ) (t : Tuple) (s : Strings) → Stands text t s → (spans : Spans) → Spanned s.lengths spans → 0 < spans.all
all_positive text t s stands spans spanned = omega (arith, all_at text t s stands spans spanned, combinations_positive t)

module _ (n : ℕ) (states : List ℕ) (all : ℕ) (positive : 0 < all) (ws : List ℕ) (least : ℕ) where
  -- a start is a cell of one of n states
  pub start_lt : (q d : ℕ) → start_cell n states all ws least q ≡ some d → (q < n) × (d < n * all)
  start_lt q d h =
      let (lt, e, same) = start_says n states all ws least q d h in
      (lt, omega (arith, same, digits_lt {q = q} {m = n} {r = 0} {c = all} lt positive))

  -- and the state is known
  pub start-state : (q d : ℕ) → start_cell n states all ws least q ≡ some d → d / all ≡ q
  start-state q d h = let (lt, e, same) = start_says n states all ws least q d h in ap (λ (k : ℕ). k / all) same ∙ digits_div q positive

module _ (c : Counts) (arcs text : List ℕ) (targets : (e : ℕ) → e < c.arcs → target_of arcs e < c.states) (s : Strings) (spans : Spans) (ws : List ℕ) where
  -- a tight arc of the table leads to a cell
  pub next_lt : (b e d : ℕ) → next_cell c arcs text s spans ws b e ≡ some d → (e < c.arcs) × (d < c.states * spans.all)
  next_lt b e d h =
      let x = next_tight c arcs text s spans ws b e d h in
      (x.in_table, subst (λ (k : ℕ). k < c.states * spans.all) (sym x.there_is) (digits_lt (targets e x.in_table) x.fits))

module _ (c : Counts) (arcs text : List ℕ) (s : Strings) (spans : Spans) (ws : List ℕ) where
  -- and the cell from which it leads there is known
  pub before_is : (b e d : ℕ) → next_cell c arcs text s spans ws b e ≡ some d → cell_before c arcs spans e d ≡ b
  unfolding cell_before
  before_is b e d h =
      let x = next_tight c arcs text s spans ws b e d h in
      let to : d % spans.all ≡ number_to c arcs spans b e = ap (λ (k : ℕ). k % spans.all) x.there_is ∙ digits_mod (target_of arcs e) x.fits in
      let back : d % spans.all - shift_of c arcs spans.spans e ≡ b % spans.all = omega (arith, to) in
      ap₂ (λ (i j : ℕ). i * spans.all + j) x.from back ∙ div-add-mod' b spans.all

  -- and its labels are no longer than that cell is far from the first combination
  pub shift_fits : (b e d : ℕ) → next_cell c arcs text s spans ws b e ≡ some d → shift_of c arcs spans.spans e ≤ d % spans.all
  shift_fits b e d h =
      let x = next_tight c arcs text s spans ws b e d h in
      let to : d % spans.all ≡ number_to c arcs spans b e = ap (λ (k : ℕ). k % spans.all) x.there_is ∙ digits_mod (target_of arcs e) x.fits in
      omega (arith, to)
