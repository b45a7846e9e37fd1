-- The paths over tight arcs from a start to an end are the successful paths of the least weight that spell the tuple;
-- the first of them is the one that is told with the weight.
use mathlib.Core.Path.{◌≡◌, refl, sym, ap, subst, ◌∙◌}
use mathlib.Core.Bool.{Bool, true}
use mathlib.Core.Option.{Option, some}
use mathlib.Core.List.{List}
use Prim.Native.Nat.{ℕ, ◌+◌, ◌*◌, ◌≤◌, ◌<◌, suc-le-suc}
use native.Mathlib.Nat.{mul-le-mul}
use native.Mathlib.Omega.{arith}
use lib.ListN.{length, get_or}
use Rattle.automata.specs.OrderedSum.{ℕ_sum}
use Rattle.automata.specs.Graph.{Within}
use Rattle.automata.specs.Automaton.{Automaton, Tuple, graph, size, initial_of}
use Rattle.automata.specs.Paths.{Trace}
use Rattle.automata.specs.Cells.{drop_all, cell}
use Rattle.automata.specs.Lookup.{lookup}
use Rattle.automata.specs.LeastPath.{least_onward, least_path}
use Rattle.automata.specs.Memory.{Sound, table_of}
use Rattle.automata.proofs.AutomatonFacts.{initial_of_lt}
use Rattle.automata.proofs.SoundFacts.{sound_well_formed}
use Rattle.automata.proofs.WellFormedFacts.{weights_bounded}
use Rattle.automata.proofs.LookupBounds.{lookup-le}
use Rattle.automata.proofs.Cells.{beginnings, drop_all_beginnings, positions_beginnings}
use Rattle.automata.proofs.CountedFacts.{Run}
use Rattle.automata.proofs.LeastPathStarts.{Starts}
use Rattle.automata.proofs.TightPaths.{some_start, least_start, first_is}
use Rattle.automata.specs.Layout.{state_size}
use Rattle.table.specs.Answers.{lent}
use Rattle.table.specs.Records.{option_of, state_at}
use Rattle.table.specs.declared.answer.Counts.{Counts}
use Rattle.table.specs.Records.{Weight}
use Rattle.std.specs.Prelude.{None, Some}
use Rattle.table.proofs.SoundFacts.{few_states}
use Rattle.lookup_tuple.specs.declared.Strings.{Strings}
use Rattle.lookup_tuple.specs.Strings.{Stands}
use Rattle.lookup_moves.specs.declared.spot.Spans.{Spans}
use Rattle.lookup_moves.specs.Spots.{Spanned}
use Rattle.lookup_moves.specs.Distances.{far}
use Rattle.path_search.specs.Search.{Search}
use Rattle.path_search.specs.FirstPath.{Reaches, FirstTo}
use Rattle.lookup_cells.specs.Ends.{beginning, from_state}
use Rattle.lookup_cells.specs.Filled.{Filled}
use Rattle.lookup_cells.proofs.LeastMeaning.{place_beginnings, stands_short}
use Rattle.lookup_cells.proofs.SpotMeaning.{all_at}
use Rattle.path_search.specs.Tight.{next_cell, start_cell, end_cell}
use Rattle.path_search.proofs.TightArcFacts.{start_says, says_start}
use Rattle.path_search.proofs.TableFacts.{weight_present, table-within, table-size, initial_is, number_is}
use Rattle.path_search.proofs.PathMeaning.{follows_run, run_follows}

module _ (c : Counts) (states arcs text : List ℕ) (sound : Sound (lent c states arcs)) (t : Tuple) (s : Strings) (stands : Stands text t s)
    (tapes-are : length t ≡ c.tapes) (spans : Spans) (spanned : Spanned s.lengths spans) (ws : List ℕ)
    (filled : Filled (table_of (lent c states arcs)) t ws) (least : ℕ) (weighs : lookup ℕ_sum (table_of (lent c states arcs)) t ≡ some least) where
  -- the table
  abbrev table : Automaton ℕ
  table = table_of (lent c states arcs)

  -- its arcs lie between its states
  abbrev within : Within (graph table) (size table)
  within = table-within c states arcs sound

  -- where tight arcs lead
  abbrev next : ℕ → ℕ → Option ℕ
  next = next_cell c arcs text s spans ws

  -- where paths of the least weight start
  abbrev start : ℕ → Option ℕ
  start = start_cell c.states states spans.all ws least

  -- and where they end
  abbrev end : ℕ → Bool
  end = end_cell states spans.all ws

  -- the weight of the tuple is below the number for "none"
  least_small : least < far
  least_small =
      let few : size table ≤ 1024 = omega (arith, few_states (lent c states arcs) sound, table-size c states arcs sound) in
      omega (
        arith,
        lookup-le table (weights_bounded table (sound_well_formed (lent c states arcs) sound)) within t least weighs,
        mul-le-mul few (suc-le-suc (stands_short text t s stands)),
      )

  -- ---- starts

  -- the first cell of a state
  first_cell : (q : ℕ) → q * spans.all + 0 ≡ cell q (beginnings t) t
  first_cell q =
      let e = ap (λ (k : ℕ). q * k) (all_at text t s stands spans spanned) in
      omega (arith, e, place_beginnings t)

  -- where a least path starts there is an initial weight, and it and the number of the cell make up the weight
  start_initial : (q : ℕ) → q < c.states → from_state states spans.all ws q ≡ least
      → (i : ℕ) × (initial_of table q ≡ some i) × (i + get_or ws (q * spans.all + 0) 0 ≡ least)
  unfolding from_state
  start_initial q lt = go (state_at (state_size * q) states).initial refl
    where
      go : (x : Weight) → (state_at (state_size * q) states).initial ≡ x → beginning x (get_or ws (q * spans.all + 0) 0) ≡ least
          → (i : ℕ) × (initial_of table q ≡ some i) × (i + get_or ws (q * spans.all + 0) 0 ≡ least)
      go None e h = absurd (omega (arith, h, least_small))
      go (Some i) e h = (i, initial_is c states arcs sound q lt ∙ ap option_of e, h)

  -- and the other way round
  initial_start : (q i : ℕ) → q < c.states → initial_of table q ≡ some i → i + get_or ws (q * spans.all + 0) 0 ≡ least → from_state states spans.all ws q ≡ least
  unfolding from_state
  initial_start q i lt e h =
      ap (λ (x : Weight). beginning x (get_or ws (q * spans.all + 0) 0)) (weight_present (state_at (state_size * q) states).initial i (sym (initial_is c states arcs sound q lt) ∙ e)) ∙ h

  -- ---- paths

  -- what leads from a start to an end is a path of the least weight
  reaches_starts : (ρ : Trace) (d : ℕ) → Reaches next start ρ d → end d ≡ true → Starts ℕ_sum table within t ρ.start ρ.run least
  reaches_starts ρ d r h =
      let (lt, e, same) = start_says c.states states spans.all ws least ρ.start r.first r.starts in
      let (i, starts, sum) = start_initial ρ.start lt e in record {
        initial = i;
        starts = starts;
        onwards = get_or ws r.first 0;
        run = subst (λ (z : Tuple). Run ℕ_sum table ρ.start z ρ.run (get_or ws r.first 0)) (drop_all_beginnings t)
            (follows_run c states arcs text sound t s stands tapes-are spans spanned ws start r.follows h ρ.start (beginnings t) lt (positions_beginnings t)
            (same ∙ first_cell ρ.start));
        sum = sym sum ∙ ap (λ (k : ℕ). i + get_or ws k 0) (sym same);
      }

  -- and every path of the least weight leads from a start to an end
  starts_reaches : (ρ : Trace) → Starts ℕ_sum table within t ρ.start ρ.run least → (d : ℕ) × Reaches next start ρ d × (end d ≡ true)
  starts_reaches ρ x =
      let q : ℕ = ρ.start in
      let lt : q < c.states = omega (arith, initial_of_lt table q x.initial x.starts, table-size c states arcs sound) in
      let all = drop_all_beginnings t in
      let pos = positions_beginnings t in
      let onward : least_onward ℕ_sum table q (drop_all (beginnings t) t) ≡ some x.onwards
      = ap (least_onward ℕ_sum table q) all ∙ least_start ℕ_sum table within t least weighs x in
      let (d, f, h) = run_follows c states arcs text sound t s stands tapes-are spans spanned ws start filled ρ.run q (beginnings t) x.onwards lt pos onward
      (subst (λ (z : Tuple). Run ℕ_sum table q z ρ.run x.onwards) (sym all) x.run) in
      let number : get_or ws (q * spans.all + 0) 0 ≡ x.onwards
      = ap (λ (k : ℕ). get_or ws k 0) (first_cell q)
      ∙ number_is c states arcs sound t ws filled q (beginnings t) x.onwards lt pos onward in
      let from = initial_start q x.initial lt x.starts (ap (λ (k : ℕ). x.initial + k) number ∙ sym x.sum) in (
        d,
        record { first = cell q (beginnings t) t; starts = says_start c.states states spans.all ws least q lt from ∙ ap some (first_cell q); follows = f },
        h,
      )

  -- The first path that leads to an end is the one that is told with the weight.
  pub least_path_lem : (x : Search) (d : ℕ) (f : FirstTo next start end (c.states * spans.all) x d)
      → least_path ℕ_sum table t ≡ some (record { weight = least; path = f.path })
  least_path_lem x d f = first_is ℕ_sum table within t least weighs f.path (reaches_starts f.path d f.reaches f.ends)
      (λ ρ y. let (b, r, h) = starts_reaches ρ y in f.first ρ b r h)

  -- Some path leads to an end.
  pub least_reaches : (ρ : Trace) × (d : ℕ) × Reaches next start ρ d × (end d ≡ true)
  least_reaches =
      let (q, r, x) = some_start ℕ_sum table within t least weighs in
      let ρ : Trace = record { start = q; run = r } in
      let (d, p, h) = starts_reaches ρ x in
      (ρ, d, p, h)
