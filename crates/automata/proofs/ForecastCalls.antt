-- What the call `forecast` told, and the bytes of its records.
use mathlib.Core.Path.{◌≡◌, refl, sym, ap, ◌∙◌}
use mathlib.Core.Bool.{Bool}
use mathlib.Core.List.{List, [], ◌∷◌, map}
use Prim.Native.Nat.{ℕ, ◌*◌}
use native.Mathlib.Omega.{arith}
use lib.Dec.{T, leb}
use lib.ListN.{length, length-append, length-map}
use Rattle.automata.specs.Limits.{max_pairs}
use Rattle.automata.specs.Lists.{and, all}
use Rattle.automata.specs.Answer.{ok}
use Rattle.automata.specs.Automaton.{Automaton, size}
use Rattle.automata.specs.TapePair.{Pair}
use Rattle.automata.specs.Projection.{is_tape}
use Rattle.automata.specs.IntersectCall.{distinct, named}
use Rattle.automata.specs.Memory.{Memory, Sound, table_of, decode_table}
use Rattle.automata.specs.Forecast.{number, over, Forecast, mixed, needs}
use Rattle.automata.specs.ForecastCall.{forecast_of, forecast_call}
use Rattle.automata.specs.Calls.Work.{forecast_work, enough}
use Rattle.automata.specs.Calls.Forecast.{forecast_answer, forecast_size, forecast_record, forecast_records}
use Rattle.automata.proofs.TestFacts.{and_T}
use Rattle.automata.proofs.AnswerFacts.{bind_ok, judge-ok, ok_injective}
use Rattle.automata.proofs.SoundFacts.{sound, table_of_is}

-- forecasts were told: the table is one, there was room, and they are those of the pairs in list order
pub record ToldOf (m : Memory) (ps : List Pair) (room : Bool) (fs : List Forecast) : Type 0 where
  pub judged : Sound m
  pub roomy : T room
  pub are : fs ≡ map (forecast_of (table_of m)) ps

pub told_of_lem : (m : Memory) (ps : List Pair) (room : Bool) (work : List ℕ) (fs : List Forecast) → forecast_answer m ps room work ≡ ok fs → ToldOf m ps room fs
unfolding forecast_answer forecast_call
told_of_lem m ps room work fs e =
    let (A, d, e₀) = bind_ok (decode_table m) (λ A. forecast_call (and room (enough (forecast_work (size A)) work)) ps A) fs e in
    let (_, e₁) = judge-ok (all (is_tape A.tapes) (named ps)) _ _ fs e₀ in
    let (_, e₂) = judge-ok (and (leb (length ps) max_pairs) (distinct (named ps))) _ _ fs e₁ in
    let (t, e₃) = judge-ok (and room (enough (forecast_work (size A)) work)) _ _ fs e₂ in
    record {
      judged = sound m A d;
      roomy = (and_T room (enough (forecast_work (size A)) work) t).0;
      are = sym (ok_injective (map (forecast_of A) ps) fs e₃) ∙ ap (λ (B : Automaton ℕ). map (forecast_of B) ps) (sym (table_of_is m A d));
    }

-- as many as the pairs
pub told_count : (m : Memory) (ps : List Pair) (room : Bool) (fs : List Forecast) → ToldOf m ps room fs → length fs ≡ length ps
told_count m ps room fs t = ap length t.are ∙ length-map ps (forecast_of (table_of m))

-- a record has its size
pub length_record : (f : Forecast) → length (forecast_record f) ≡ forecast_size
length_record (needs d (number n)) = refl
length_record (needs d over) = refl
length_record mixed = refl

-- and several as many times that
pub length_records : (fs : List Forecast) → length (forecast_records fs) ≡ forecast_size * length fs
length_records [] = refl
length_records (f ∷ fs) = omega (arith, length-append (forecast_record f) (forecast_records fs), length_record f, length_records fs)
