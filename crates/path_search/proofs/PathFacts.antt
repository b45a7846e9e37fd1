-- The path behind a weight, from what each step gave: the cells filled, the search over them, and the way back.
use mathlib.Core.Path.{◌≡◌, sym, ap, subst, ◌∙◌}
use mathlib.Core.Bool.{Bool}
use mathlib.Core.Option.{Option, none, some}
use mathlib.Core.List.{List, [], append-nil}
use Prim.Native.Nat.{ℕ, ◌+◌, ◌*◌, ◌/◌, ◌≤◌, ◌<◌}
use native.Mathlib.Omega.{arith}
use lib.ListN.{length, get_or}
use Rattle.automata.specs.OrderedSum.{ℕ_sum}
use Rattle.automata.specs.Automaton.{Tuple}
use Rattle.automata.specs.Lookup.{lookup}
use Rattle.automata.specs.LeastPath.{Account, least_path}
use Rattle.automata.specs.Memory.{Sound, table_of}
use Rattle.automata.specs.Calls.Work.{combinations, lookup_work, path_work}
use Rattle.automata.specs.Calls.LeastPath.{places_in, Told, told_answer, path_in}
use Rattle.automata.specs.Answer.{Answer, ok}
use Rattle.automata.specs.LeastPathCall.{listed}
use Rattle.automata.proofs.SoundFacts.{sound_well_formed}
use Rattle.automata.proofs.WellFormedFacts.{well_formed}
use Rattle.automata.proofs.TightPaths.{none_is}
use Rattle.automata.specs.Layout.{state_size}
use Rattle.table_adjacency.specs.Chains.{Chainable}
use Rattle.table.specs.Answers.{lent}
use Rattle.table.specs.Records.{arc_at}
use Rattle.table.specs.declared.answer.Counts.{Counts}
use Rattle.table.proofs.SoundFacts.{few_tapes, few_states, few_arcs, states_lent, arcs_lent, arc_source, arc_target}
use Rattle.lookup_tuple.specs.declared.Strings.{Strings}
use Rattle.lookup_tuple.specs.Strings.{Stands}
use Rattle.lookup_moves.specs.declared.spot.Spans.{Spans}
use Rattle.lookup_moves.specs.Distances.{far, cells_of}
use Rattle.lookup_moves.specs.Spots.{Spanned, spot_of, Placed}
use Rattle.lookup_moves.proofs.CellFacts.{length_cells}
use Rattle.path_search.specs.Search.{Search, search_of, enter_starts, search_from}
use Rattle.path_search.specs.FirstPath.{FirstTo, Kept}
use Rattle.path_search.proofs.EnterFacts.{none_found}
use Rattle.path_search.proofs.SearchFacts.{search_first, search_none}
use Rattle.table.specs.Arcs.{target_of}
use Rattle.lookup_cells.specs.Pushes.{Ready}
use Rattle.lookup_cells.proofs.PushMeaning.{ready}
use Rattle.lookup_cells.proofs.SpotMeaning.{digits, all_at, spans_positive, at_spot}
use Rattle.lookup_cells.specs.Fillable.{Fillable, CellsFilled}
use Rattle.path_search.specs.Tight.{next_cell, start_cell, end_cell}
use Rattle.path_search.proofs.TightArcFacts.{all_positive, start_lt, start-state, next_lt, before_is, shift_fits}
use Rattle.path_search.proofs.LeastPathFacts.{least_path_lem, least_reaches}
use Rattle.path_search.specs.Searchable.{Spannable, Searchable, Weights}
use Rattle.path_search.specs.Trail.{Retraceable, count_back, run_back, CanCount, CanWalk}
use Rattle.path_search.specs.Traced.{Traceable, traced}
use Rattle.path_search.proofs.BackFacts.{back_counts, can_count, back_runs, can_walk}

-- ---- what the steps ask

-- work space with room for the search has room for the cells
pub trace_fillable : (c : Counts) (states arcs text : List ℕ) (s : Strings) (size : ℕ) → Traceable (lent c states arcs) text s size → Fillable (lent c states arcs) text s size
unfolding lookup_work path_work
trace_fillable c states arcs text s size f =
    record { sound = f.sound; tuple = f.tuple; stands = f.stands; tapes_are = f.tapes_are; fits = omega (arith, f.fits) }

module _ (c : Counts) (states arcs text : List ℕ) (s : Strings) (size : ℕ) (f : Traceable (lent c states arcs) text s size) (spans : Spans)
    (spanned : Spanned s.lengths spans) where
  -- the number of cells
  abbrev cells : ℕ
  cells = c.states * spans.all

  positive : 0 < spans.all
  positive = all_positive text f.tuple s f.stands spans spanned

  -- every combination is ready
  ready_at : (n : ℕ) → n < spans.all → Ready c arcs text (spot_of s spans n)
  ready_at n lt =
      let small : n < combinations f.tuple = omega (arith, lt, all_at text f.tuple s f.stands spans spanned) in
      ready c states arcs text f.sound f.tuple f.tapes_are (spot_of s spans n) (digits n f.tuple) (at_spot text f.tuple s f.stands spans spanned n small)

  spannable : Spannable spans
  unfolding spot_of
  spannable = record { eight = spanned.eight; small = (ready_at 0 positive).laid.small }

  pub searchable : Placed s → Searchable c arcs text s spans
  searchable placed = record {
    spannable = spannable;
    placed = placed;
    positive = spans_positive text f.tuple s f.stands spans spanned;
    some_combination = positive;
    ready = ready_at;
  }

  pub states_there : state_size * c.states ≤ length states
  states_there = states_lent (lent c states arcs) f.sound

  pub chainable : Chainable c.states c.arcs arcs 1024 8192
  unfolding arc_at
  chainable = record {
    whole = arcs_lent (lent c states arcs) f.sound;
    few = few_arcs (lent c states arcs) f.sound;
    sources = arc_source (lent c states arcs) f.sound;
    states_fit = few_states (lent c states arcs) f.sound;
    arcs_fit = few_arcs (lent c states arcs) f.sound;
  }

  three_numbers : 24 * cells ≤ size
  unfolding path_work
  three_numbers = subst (λ (n : ℕ). 24 * (c.states * n) ≤ size) (sym (all_at text f.tuple s f.stands spans spanned)) f.fits

  targets : (e : ℕ) → e < c.arcs → target_of arcs e < c.states
  unfolding arc_at
  targets = arc_target (lent c states arcs) f.sound

  module _ (w : List ℕ) (l : length w ≡ size) (g : CellsFilled (lent c states arcs) text s w) where
    pub weights : Weights cells w
    weights = record { room = omega (arith, three_numbers, l); below = λ k lt. (g.filled f.tuple f.stands f.tapes_are).below k }

    -- three numbers a cell
    room : 3 * cells ≤ length (cells_of w)
    room = omega (arith, three_numbers, l, length_cells w)

    -- no cell is found yet
    clear : (k : ℕ) → k < cells → far ≤ get_or (cells_of w) (cells + k) 0
    clear k lt =
        let out : c.states * combinations f.tuple ≤ cells + k
        = subst (λ (n : ℕ). c.states * n ≤ cells + k) (all_at text f.tuple s f.stands spans spanned) (omega arith) in
        omega (arith, g.rest f.tuple f.stands (cells + k) out (omega (arith, lt, three_numbers, l)))

    pub nothing_found : Kept cells (search_of (cells_of w) 0)
    nothing_found = none_found cells (cells_of w) room clear

    -- what the way back asks
    pub retraceable : length w < 18446744073709551616 → Retraceable c arcs spans
    unfolding arc_at
    retraceable small = record {
      spannable = spannable;
      some_combination = positive;
      few_tapes = few_tapes (lent c states arcs) f.sound;
      few_arcs = few_arcs (lent c states arcs) f.sound;
      lent = arcs_lent (lent c states arcs) f.sound;
      labelled = λ e lt. ((ready_at 0 positive).each e lt).labelled;
      source = arc_source (lent c states arcs) f.sound;
      fits = omega (arith, three_numbers, l, small);
    }

    -- ---- the search

    module _ (least : ℕ) (t : Tuple) (stands : Stands text t s) (tapes-are : length t ≡ c.tapes)
        (weighs : lookup ℕ_sum (table_of (lent c states arcs)) t ≡ some least) where
      -- where arcs lead, where paths start and where they end
      abbrev next : ℕ → ℕ → Option ℕ
      next = next_cell c arcs text s spans (cells_of w)

      abbrev start : ℕ → Option ℕ
      start = start_cell c.states states spans.all (cells_of w) least

      abbrev end : ℕ → Bool
      end = end_cell states spans.all (cells_of w)

      -- the search from the starts
      abbrev found : Option ℕ × Search
      found = search_from cells next c.arcs end cells 0 (enter_starts cells start c.states 0 (search_of (cells_of w) 0))

      next_in : (b e d : ℕ) → next b e ≡ some d → (e < c.arcs) × (d < cells)
      next_in = next_lt c arcs text targets s spans (cells_of w)

      start_in : (q d : ℕ) → start q ≡ some d → (q < c.states) × (d < cells)
      start_in = start_lt c.states states spans.all positive (cells_of w) least

      few : c.arcs ≤ 65535
      few = omega (arith, few_arcs (lent c states arcs) f.sound)

      -- it finds an end
      pub search_finds : (o : Option ℕ) (x : Search) → o ≡ none → (o, x) ≡ found → ⊥
      search_finds o x n e =
          let (ρ, d, r, k) = least_reaches c states arcs text f.sound t s stands tapes-are spans spanned (cells_of w) (g.filled t stands tapes-are) least weighs in
          search_none next start end cells c.arcs c.states next_in start_in few (cells_of w) room clear x (sym e ∙ ap (λ (p : Option ℕ). (p, x)) n) ρ d r k

      module _ (o : Option ℕ) (x : Search) (d : ℕ) (at-end : o ≡ some d) (e : (o, x) ≡ found) where
        -- the first of the paths that lead to an end
        first : FirstTo next start end cells x d
        first = search_first next start end cells c.arcs c.states next_in start_in few (cells_of w) room clear d x (sym e ∙ ap (λ (p : Option ℕ). (p, x)) at-end)

        abbrev run : List ℕ
        run = first.path.run

        count_is : count_back c arcs spans x.numbers x.tail d ≡ length run
        count_is = back_counts c arcs spans x.numbers next start next_in start_in (before_is c arcs text s spans (cells_of w)) (shift_fits c arcs text s spans (cells_of w))
            (few_arcs (lent c states arcs) f.sound) first.back x.tail first.short

        pub can_count_back : CanCount c arcs spans x.numbers x.tail d
        can_count_back = can_count c arcs spans x.numbers next start next_in start_in (before_is c arcs text s spans (cells_of w)) (shift_fits c arcs text s spans (cells_of w))
            (few_arcs (lent c states arcs) f.sound) first.back x.tail first.short

        pub can_walk_back : CanWalk c arcs spans x.numbers (count_back c arcs spans x.numbers x.tail d) d
        can_walk_back = subst (λ (n : ℕ). CanWalk c arcs spans x.numbers n d) (sym count_is)
            (can_walk c arcs spans x.numbers next start next_in start_in (before_is c arcs text s spans (cells_of w)) (shift_fits c arcs text s spans (cells_of w))
            (few_arcs (lent c states arcs) f.sound) first.back)

        -- the marks lead back along it
        traced_is : traced c arcs spans x.numbers least x.tail d ≡ record { weight = least; path = first.path }
        traced_is =
            let (k, at, back) = back_runs c arcs spans x.numbers next start next_in start_in (before_is c arcs text s spans (cells_of w)) (shift_fits c arcs text s spans (cells_of w))
            (few_arcs (lent c states arcs) f.sound) first.back [] in
            let same : run_back c arcs spans x.numbers (count_back c arcs spans x.numbers x.tail d) d [] ≡ (run, k)
            = ap (λ (n : ℕ). run_back c arcs spans x.numbers n d []) count_is ∙ back ∙ ap (λ (r : List ℕ). (r, k)) (append-nil run) in
            let state : k / spans.all ≡ first.path.start = start-state c.states states spans.all positive (cells_of w) least first.path.start k at in
            ap (λ (b : List ℕ × ℕ). record { weight = least; path = record { start = b.1 / spans.all; run = b.0 } }) same
            ∙ ap (λ (q : ℕ). record { weight = least; path = record { start = q; run = run } }) state

        -- so it is the path behind the weight
        pub least_traced : least_path ℕ_sum (table_of (lent c states arcs)) t ≡ some (traced c arcs spans x.numbers least x.tail d)
        least_traced =
            least_path_lem c states arcs text f.sound t s stands tapes-are spans spanned (cells_of w) (g.filled t stands tapes-are) least weighs x d first
            ∙ ap some (sym traced_is)

-- ---- what is told

-- nothing, where the tuple has no weight
pub nothing-told : (c : Counts) (states arcs : List ℕ) → Sound (lent c states arcs) → (t : Tuple) (list : List ℕ)
    → none ≡ lookup ℕ_sum (table_of (lent c states arcs)) t
    → (ok none ≡ told_answer (listed (places_in list) (least_path ℕ_sum (table_of (lent c states arcs)) t)))
    × (list ≡ path_in (listed (places_in list) (least_path ℕ_sum (table_of (lent c states arcs)) t)) list)
nothing-told c states arcs sound t list e =
    let table = table_of (lent c states arcs) in
    let same = none_is ℕ_sum table (well_formed table (sound_well_formed (lent c states arcs) sound)).within t (sym e) in
    (sym (ap (λ (o : Option (Account ℕ)). told_answer (listed (places_in list) o)) same), sym (ap (λ (o : Option (Account ℕ)). path_in (listed (places_in list) o) list) same))

-- the path behind the weight
pub least_told : (a : Answer (Option Told)) (list left : List ℕ) (x : Account ℕ) (o : Option (Account ℕ))
    → (a ≡ told_answer (listed (places_in list) (some x))) × (left ≡ path_in (listed (places_in list) (some x)) list) → o ≡ some x
    → (a ≡ told_answer (listed (places_in list) o)) × (left ≡ path_in (listed (places_in list) o) list)
least_told a list left x o (e, f) same = (
  e ∙ sym (ap (λ (p : Option (Account ℕ)). told_answer (listed (places_in list) p)) same),
  f ∙ sym (ap (λ (p : Option (Account ℕ)). path_in (listed (places_in list) p) list) same),
)
