-- The paths over tight arcs that lead from a cell to an end are the runs of the table from there on that have the
-- number of the cell as their weight.
use mathlib.Core.Path.{◌≡◌, refl, sym, ap, subst, ◌∙◌}
use mathlib.Core.Bool.{true}
use mathlib.Core.Option.{Option, some, some-injective}
use mathlib.Core.List.{List, [], ◌∷◌}
use Prim.Native.Nat.{ℕ, ◌+◌, ◌*◌, ◌<◌}
use native.Mathlib.Omega.{arith}
use lib.ListN.{length, get_or}
use Rattle.automata.specs.OrderedSum.{ℕ_sum}
use Rattle.automata.specs.Automaton.{Automaton, Arc, Tuple}
use Rattle.automata.specs.Cells.{Positions, drop_all, cell}
use Rattle.automata.specs.LeastPath.{least_onward}
use Rattle.automata.specs.Memory.{Sound, table_of}
use Rattle.automata.proofs.ListFacts.{place_bound}
use Rattle.automata.proofs.SoundFacts.{sound_holds}
use Rattle.automata.proofs.Spelling.{all_empty_spells, spells_all_empty}
use Rattle.automata.proofs.LookupRuns.{Ending}
use Rattle.automata.proofs.Cells.{moved, left_quotients_drop}
use Rattle.automata.proofs.CountedFacts.{Run, RunOn, run_on, run_cons}
use Rattle.automata.proofs.TightPaths.{run_stop, stop_run, least_tail}
use Rattle.automata.specs.Layout.{state_size}
use Rattle.table.specs.Answers.{lent}
use Rattle.table.specs.Records.{option_of, state_at}
use Rattle.table.specs.declared.answer.Counts.{Counts}
use Rattle.table.proofs.SoundFacts.{arc_loaded, arc_target}
use Rattle.lookup_tuple.specs.declared.Strings.{Strings}
use Rattle.lookup_tuple.specs.Strings.{Stands}
use Rattle.lookup_moves.specs.declared.spot.Spans.{Spans}
use Rattle.lookup_moves.specs.Spots.{Spanned}
use Rattle.path_search.specs.FirstPath.{Follows, stop, step}
use Rattle.lookup_cells.specs.Filled.{Filled}
use Rattle.lookup_cells.proofs.SpotMeaning.{all_at}
use Rattle.lookup_cells.proofs.StartMeaning.{last_empty, empty-last}
use Rattle.path_search.specs.Tight.{next_cell, end_cell}
use Rattle.path_search.proofs.TightArcFacts.{next_tight, tight_next, end_says, says_end}
use Rattle.path_search.proofs.ArcMeaning.{table_arc, ArcFrom, cell-state, cell-number, tight_arc, arc_tight}
use Rattle.path_search.proofs.TableFacts.{weight_present, table-within, table-size, final_is, number_is}

module _ (c : Counts) (states arcs text : List ℕ) (sound : Sound (lent c states arcs)) (t : Tuple) (s : Strings) (stands : Stands text t s)
    (tapes-are : length t ≡ c.tapes) (spans : Spans) (spanned : Spanned s.lengths spans) (ws : List ℕ) where
  -- the table
  abbrev table : Automaton ℕ
  table = table_of (lent c states arcs)

  -- ---- ends

  module _ (q : ℕ) (lt : q < c.states) (ps : List ℕ) (pos : Positions ps t) where
    -- at an end nothing is left but the final weight
    end_ending : end_cell states spans.all ws (cell q ps t) ≡ true → Ending ℕ_sum table q (drop_all ps t) (get_or ws (cell q ps t) 0)
    end_ending h =
        let (e, l) = end_says states spans.all ws (cell q ps t) h in
        let last = last_empty ps t pos (omega (arith, l, cell-number text t s stands spans spanned q ps pos, all_at text t s stands spans spanned)) in (
          all_empty_spells ℕ (drop_all ps t) last,
          final_is c states arcs sound q lt ∙ ap (λ (k : ℕ). option_of (state_at (state_size * k) states).last) (sym (cell-state text t s stands spans spanned q ps pos))
              ∙ ap option_of e,
        )

    -- and where nothing else is left there is an end
    ending_end : Ending ℕ_sum table q (drop_all ps t) (get_or ws (cell q ps t) 0) → end_cell states spans.all ws (cell q ps t) ≡ true
    ending_end (h, f) =
        let last = empty-last ps t pos (spells_all_empty ℕ (drop_all ps t) h) in
        says_end states spans.all ws (cell q ps t)
        (ap (λ (k : ℕ). (state_at (state_size * k) states).last) (cell-state text t s stands spans spanned q ps pos)
        ∙ weight_present (state_at (state_size * q) states).last (get_or ws (cell q ps t) 0) (sym (final_is c states arcs sound q lt) ∙ f))
        (omega (arith, last, cell-number text t s stands spans spanned q ps pos, all_at text t s stands spans spanned))

  -- ---- paths

  module _ (start : ℕ → Option ℕ) where
    -- tight arcs lead from one cell to another
    abbrev Tightly : ℕ → List ℕ → ℕ → Type 0
    Tightly = Follows (next_cell c arcs text s spans ws) start

    -- those that lead to an end are a run, and the number of the cell is its weight
    pub follows_run : {b d : ℕ} {r : List ℕ} → Tightly b r d → end_cell states spans.all ws d ≡ true
        → (q : ℕ) (ps : List ℕ) → q < c.states → Positions ps t → b ≡ cell q ps t → Run ℕ_sum table q (drop_all ps t) r (get_or ws b 0)
    follows_run stop h q ps lt pos same =
        let e = end_ending q lt ps pos (subst (λ (k : ℕ). end_cell states spans.all ws k ≡ true) same h) in
        subst (λ (k : ℕ). Run ℕ_sum table q (drop_all ps t) [] (get_or ws k 0)) (sym same) (stop_run ℕ_sum table e)
    follows_run (step {d = d} e n f) h q ps lt pos same =
        let tight = next_tight c arcs text s spans ws (cell q ps t) e d (ap (λ (k : ℕ). next_cell c arcs text s spans ws k e) (sym same) ∙ n) in
        let x = tight_arc c states arcs text sound t s stands tapes-are spans spanned ws q ps pos e d tight in
        let a : Arc ℕ = table_arc c arcs e in
        run_cons ℕ_sum table (record {
          arc = a;
          at = arc_loaded (lent c states arcs) sound e tight.in_table;
          from = x.from;
          rest = drop_all (moved ps a.labels) t;
          left = x.left;
          onwards = get_or ws d 0;
          tail = follows_run f h a.target (moved ps a.labels) (arc_target (lent c states arcs) sound e tight.in_table) x.positions x.there_is;
          sum = ap (λ (k : ℕ). get_or ws k 0) same ∙ sym x.weighs;
        })

    module _ (filled : Filled table t ws) where
      -- a run of the least weight goes by tight arcs to an end
      pub run_follows : (r : List ℕ) (q : ℕ) (ps : List ℕ) (w : ℕ) → q < c.states → Positions ps t → least_onward ℕ_sum table q (drop_all ps t) ≡ some w
          → Run ℕ_sum table q (drop_all ps t) r w → (d : ℕ) × Tightly (cell q ps t) r d × (end_cell states spans.all ws d ≡ true)
      run_follows [] q ps w lt pos l o =
          let e = subst (Ending ℕ_sum table q (drop_all ps t)) (sym (number_is c states arcs sound t ws filled q ps w lt pos l)) (run_stop ℕ_sum table o) in
          (cell q ps t, stop, ending_end q lt ps pos e)
      run_follows (e ∷ r) q ps w lt pos l o =
          let within = table-within c states arcs sound in
          let counted = table-size c states arcs sound in
          let number_at = number_is c states arcs sound t ws filled in
          let x : RunOn ℕ_sum table q (drop_all ps t) e r w = run_on ℕ_sum table o in
          let a : Arc ℕ = x.arc in
          let qs : List ℕ = moved ps a.labels in
          let target : a.target < c.states = omega (arith, (within e a x.at).1, counted) in
          let (rest, pos') = left_quotients_drop a.labels ps t x.rest pos x.left in
          let onward : least_onward ℕ_sum table a.target (drop_all qs t) ≡ some x.onwards
          = ap (least_onward ℕ_sum table a.target) (sym rest) ∙ least_tail ℕ_sum table within (omega (arith, counted)) l x in
          let leads : ArcFrom t ws q ps a (cell a.target qs t)
          = record {
            from = x.from;
            positions = pos';
            left = x.left ∙ ap some rest;
            there_is = refl;
            weighs = ap (λ (k : ℕ). a.weight + k) (number_at a.target qs x.onwards target pos' onward) ∙ sym x.sum ∙ sym (number_at q ps w lt pos l);
          } in
          let lt' : e < c.arcs = omega (arith, place_bound table.arcs e x.at, (sound_holds (lent c states arcs) sound).arcs) in
          let same : a ≡ table_arc c arcs e = some-injective a (table_arc c arcs e) (sym x.at ∙ arc_loaded (lent c states arcs) sound e lt') in
          let tight = arc_tight c states arcs text sound t s stands tapes-are spans spanned ws q ps pos e (cell a.target qs t) lt'
          (subst (λ (z : Arc ℕ). ArcFrom t ws q ps z (cell a.target qs t)) same leads) in
          let (d, f, h) = run_follows r a.target qs x.onwards target pos' onward
          (subst (λ (z : Tuple). Run ℕ_sum table a.target z r x.onwards) rest x.tail) in
          (d, step {b = d} e (tight_next c arcs text s spans ws (cell q ps t) e (cell a.target qs t) tight) f, h)
