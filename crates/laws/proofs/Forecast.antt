-- Request 2.1 of document 02: a forecast tells what the request says of paths and cycles, and no configuration goes
-- beyond the delay told.
use mathlib.Core.Path.{◌≡◌, refl}
use mathlib.Core.Logic.{◌↔◌, inl, inr}
use mathlib.Core.Bool.{Bool, true}
use mathlib.Core.List.{List, ◌++◌, map}
use Prim.Native.Nat.{ℕ, ◌-◌, ◌*◌, ◌≤◌}
use native.Mathlib.Omega.{arith}
use lib.ListN.{length}
use Rattle.automata.specs.Lists.{◌∈◌}
use Rattle.automata.specs.Answer.{◌>>=◌, Answer, ok, refused}
use Rattle.automata.specs.Automaton.{Automaton, Arc, Formed}
use Rattle.automata.specs.TapePair.{Pair, TapePair, first_label, second_label}
use Rattle.automata.specs.Memory.{Memory, table_of}
use Rattle.automata.specs.Config.{Config}
use Rattle.automata.specs.Viable.{EachPair}
use Rattle.automata.specs.Forecast.{greatest_delay, on_paths, symbols_on, Forecast}
use Rattle.automata.specs.Calls.Outcome.{overwrite, print}
use Rattle.automata.specs.Calls.Work.{enough}
use Rattle.automata.specs.Calls.Forecast.{forecast_answer, forecast_outcome, forecast_size, forecast_records, forecast_recorded}
use Rattle.automata.proofs.ListFacts
use Rattle.automata.proofs.AnswerFacts.{refused≢ok, ok_injective}
use Rattle.automata.proofs.WellFormedFacts.{well_formed}
use Rattle.automata.proofs.SoundFacts.{sound_well_formed}
use Rattle.automata.proofs.ViableFacts.{viable_decides}
use Rattle.automata.proofs.PathStates.{state_on_path, path_states-number, arc_on_path_lem, greatest_above, greatest_attained}
use Rattle.automata.proofs.SimpleCycles.{mixed_simple}
use Rattle.automata.proofs.DelayBounds.{reached_bounded}
use Rattle.automata.proofs.ForecastFacts.{forecast-mixed, forecast-needs, forecast_unmixed, forecast-limit}
use Rattle.automata.proofs.ForecastRanges.{symbols_members, symbols-distinct}
use Rattle.automata.proofs.ForecastCalls.{ToldOf, told_of_lem, told_count, length_records}
use Rattle.laws.specs.Forecast.{Tells, Greatest, viability, ReachedUnlimited, ForecastHolds, ForecastsTold}

module _ {W : Type 0} (A : Automaton W) (formed : Formed A) (ps : List TapePair) where
  bounded : (c : Config) → ReachedUnlimited A ps c
      → EachPair ps c.leftovers (λ p l. (d : ℕ) → Tells A p d → (length l.first ≤ d) × (length l.second ≤ d))
  bounded c h k p l at at' d (t, e) =
      let (a, b) = reached_bounded A formed ps (viability A ps) (viable_decides A formed ps) c h k p l at at' (forecast_unmixed A p formed d t e) in
      let n = (forecast-needs A p d t e).1 in
      rw (← n) (a, b)

  -- the greatest delay is that of the arcs on successful paths
  greatest_on : (p : TapePair) → Greatest A p (greatest_delay (on_paths A) (p.first - 1) (p.second - 1) A.arcs)
  greatest_on p = record {
    none_greater = λ e a at on. let (s, t) = (arc_on_path_lem A formed e a at).1 on in greatest_above (on_paths A) (p.first - 1) (p.second - 1) A.arcs e a at s t;
    attained = elim (greatest_attained (on_paths A) (p.first - 1) (p.second - 1) A.arcs) [
      | inl z ↦ inl z
      | inr (e, a, at, s, t, q) ↦ inr (e, a, at, (arc_on_path_lem A formed e a at).0 (s, t), q)
    ];
  }

  -- the symbols in use are those on the pair's tapes on some arc
  in_use : (p : TapePair) (x : ℕ) → (x ∈ symbols_on A p) ↔ ((a : Arc W) × (a ∈ A.arcs) × (x ∈ (first_label p a ++ second_label p a)))
  in_use p x = (
    λ m.
        let (w, k, n) = ListFacts.concat_members (map spelt A.arcs) ((symbols_members A p x).0 m) in
        let (a, h, e) = ListFacts.map_members spelt A.arcs k in
        (a, h, rw e at n),
    λ (a, h, n). (symbols_members A p x).1 (ListFacts.concat_keeps (map spelt A.arcs) (ListFacts.map_keeps spelt A.arcs h) n),
  )
    where
      spelt : Arc W → List ℕ
      spelt a = first_label p a ++ second_label p a

  -- 2.1
  pub forecast_holds : ForecastHolds A ps
  forecast_holds = record {
    states_on_paths = state_on_path A formed;
    number_on_paths = path_states-number A formed;
    arcs_on_paths = arc_on_path_lem A formed;
    mixed_iff = λ p. forecast-mixed A p formed;
    simple_iff = λ p. let (to, back) = forecast-mixed A p formed in (λ e. mixed_simple A (p.first - 1) (p.second - 1) (to e), λ m. back m.0);
    greatest = greatest_on;
    symbols_in_use = in_use;
    symbols_once = λ p. symbols-distinct A p;
    delays = bounded;
  }

-- what is told of a table that was judged good
told : (m : Memory) (ps : List Pair) (room : Bool) (fs : List Forecast) → ToldOf m ps room fs → ForecastsTold m ps fs
told m ps room fs t = record {
  judged = t.judged;
  are = t.are;
  hold = λ qs _. forecast_holds (table_of m) (well_formed (table_of m) (sound_well_formed m t.judged)) qs;
  limit_not_read = forecast-limit (table_of m);
}

-- the call by value
pub forecast_call_lem : (m : Memory) (ps : List Pair) (work : List ℕ) (fs : List Forecast) → (forecast_outcome m ps work).answer ≡ ok fs → ForecastsTold m ps fs
unfolding forecast_outcome
forecast_call_lem m ps work fs e = told m ps true fs (told_of_lem m ps true work fs e)

-- and in lent bytes: the records of these forecasts stand over the front of the result space, and their number of bytes
-- is told
pub forecast-records : (m : Memory) (ps : List Pair) (result work : List ℕ) (n : ℕ) → (forecast_recorded m ps result work).written.answer ≡ ok n
    → (fs : List Forecast) × ForecastsTold m ps fs × ((forecast_recorded m ps result work).written.output ≡ overwrite (forecast_records fs) result) × (n ≡ forecast_size * length ps)
unfolding forecast_recorded print
forecast-records m ps result work n e = go (forecast_answer m ps (enough (forecast_size * length ps) result) work) refl e
  where
    room : Bool
    room = enough (forecast_size * length ps) result

    go : (a : Answer (List Forecast)) → forecast_answer m ps room work ≡ a → (print (a >>= λ fs. ok (forecast_records fs)) result).answer ≡ ok n
        → (fs : List Forecast) × ForecastsTold m ps fs × ((print (a >>= λ fs. ok (forecast_records fs)) result).output ≡ overwrite (forecast_records fs) result)
        × (n ≡ forecast_size * length ps)
    go (refused k) d q = absurd (refused≢ok q)
    go (ok fs) d q =
        let t = told_of_lem m ps room work fs d in
        (fs, told m ps room fs t, refl, omega (arith, ok_injective (length (forecast_records fs)) n q, length_records fs, told_count m ps room fs t))
