-- The answer of the call by its judgements, and its outcome on bytes.
use Prim.Native.Nat.{ℕ, ◌*◌, ◌/◌, ◌≤◌}
use mathlib.Core.Path.{◌≡◌, refl, sym, ap, ap₂, ◌∙◌}
use mathlib.Core.Bool.{Bool, true, false}
use mathlib.Core.List.{List, map}
use native.Mathlib.Omega.{arith}
use lib.Dec.{leb, leb→le}
use lib.ListN.{length, replicate}
use borrow.Author.Tests.{le-leb, lt-leb, leb-true, leb-false}
use Rattle.automata.specs.Refusal as refusal
use Rattle.automata.specs.Lists.{and}
use Rattle.automata.specs.Answer.{◌>>=◌, Answer, ok, refused, judge, forget}
use Rattle.automata.specs.Automaton.{Automaton, size}
use Rattle.automata.specs.TapePair.{Pair, tapes_of}
use Rattle.automata.specs.Memory.{Memory, Sound, table_of, decode_table}
use Rattle.automata.specs.Forecast.{Forecast}
use Rattle.automata.specs.ForecastCall.{forecast_of, forecast_call}
use Rattle.automata.specs.Calls.Outcome.{cleared, print}
use Rattle.automata.specs.Calls.Work.{forecast_work, enough}
use Rattle.automata.specs.Calls.Forecast.{forecast_size, forecast_records, forecast_answer, foretold_of, Foretold, record_bytes, recorded_of, forecast_recorded}
use Rattle.automata.proofs.TestFacts.{and_true}
use Rattle.automata.proofs.PairFacts.{length_tapes}
use Rattle.automata.proofs.ForecastCalls.{told_of_lem, told_count}
use Rattle.automata.proofs.SoundFacts.{sound, table_of_is, sound_holds}
use Rattle.automata.specs.Layout.{delays_size}
use Rattle.table.specs.declared.answer.Refusal.{Refusal}
use Rattle.table.specs.Answers.{refusal_number}
use Rattle.table.specs.declared.pair.PairList.{PairList}
use Rattle.table.specs.Pairs.{pairs_as, Named}
use Rattle.std.proofs.lemmas.Result.{IfOk-at_ok}
use Rattle.table.proofs.TableFacts.{judged_sound}
use Rattle.std.specs.Prelude.{Ok, Err}
use Rattle.pairs.specs.PairBytes.{pairs_of}
use Rattle.pairs.specs.PairTests.{tapes_answer, in_turn}
use Rattle.pairs.specs.Judgement.{PairsJudged, judgement, TapesJudged}
use Rattle.pairs.proofs.PairFacts.{pairs_count}
use Rattle.pairs.proofs.CallFacts.{forecast_then}
use Rattle.pairs.proofs.TurnFacts.{by_turns}
use Rattle.forecast_records.specs.declared.ForecastList.{ForecastList}
use Rattle.forecast_records.specs.Values.{forecasts_as, answer_as}
use Rattle.forecast_records.proofs.RecordFacts.{used_count}
use Rattle.forecast.specs.Outcome.{Recordable, recorded}

-- ---- the space

-- so many states of 64 bytes fit
pub space_fits : (states work : ℕ) → leb states (work / delays_size) ≡ leb (forecast_work states) work
unfolding forecast_work
space_fits states work = go (leb states (work / delays_size)) refl
  where
    go : (b : Bool) → leb states (work / delays_size) ≡ b → b ≡ leb (delays_size * states) work
    go true q = sym (le-leb (delays_size * states) work (omega (arith, leb-true states (work / delays_size) q)))
    go false q = sym (lt-leb (delays_size * states) work (omega (arith, leb-false states (work / delays_size) q)))

-- ---- the answer

module _ (m : Memory) (ps : List Pair) (room : Bool) (w : List ℕ) (listed : PairsJudged) (k : TapesJudged ps m.tapes listed) where
  -- what is asked of the space
  abbrev space : Bool
  space = and room (leb (forecast_work m.states) (length w))

  -- what is told of the pairs
  abbrev rest : Answer (List Forecast)
  rest = ok (map (forecast_of (table_of m)) ps)

  -- the call by the judgements
  answer_in_turn : forecast_answer m ps room w ≡ (in_turn (forget (decode_table m)) (judgement listed) space >>= λ (u : Unit {0}). rest)
  unfolding forecast_answer
  answer_in_turn = by_turns m (judgement listed) (in_turn (forget (decode_table m)) (judgement listed) space) space next rest refl (λ A d.
      let s : Sound m = sound m A d in
      let y : and room (enough (forecast_work (size (table_of m))) w) ≡ space
      = ap (λ (n : ℕ). and room (leb (forecast_work n) (length w))) (sym (sound_holds m s).states) in
      ap next (sym (table_of_is m A d))
      ∙ forecast_then (and room (enough (forecast_work (size (table_of m))) w)) ps (table_of m) m.tapes (sym (sound_holds m s).tapes)
      ∙ ap (λ (c : Bool). tapes_answer m.tapes ps >>= λ (u : Unit {0}). judge c refusal.space rest) y
      ∙ ap (λ (a : Answer (Unit {0})). a >>= λ (u : Unit {0}). judge space refusal.space rest) (sym k.answer))
    where
      next : Automaton ℕ → Answer (List Forecast)
      next A = forecast_call (and room (enough (forecast_work (size A)) w)) ps A

  -- the table is refused
  pub table_refused : (n : ℕ) → refused n ≡ forget (decode_table m) → refused n ≡ forecast_answer m ps room w
  table_refused n e = sym (answer_in_turn ∙ rw (← e))

  module _ (e : ok tt ≡ forget (decode_table m)) where
    -- the pairs are refused
    pub pairs_refused : (why : Refusal) → listed ≡ Err why → refused (refusal_number why) ≡ forecast_answer m ps room w
    pairs_refused why f = sym (answer_in_turn ∙ rw (← e, f))

    module _ (list : PairList) (f : listed ≡ Ok list) where
      -- the space is too little
      pub space_refused : false ≡ space → refused refusal.space ≡ forecast_answer m ps room w
      space_refused g = sym (answer_in_turn ∙ rw (← e, f, ← g))

      module _ (g : true ≡ space) where
        -- the table is one, the pairs name its tapes, and the work space is enough
        pub may_tell : Sound m × Named m.tapes list × (forecast_work m.states ≤ length w)
        may_tell = (judged_sound m (sym e), IfOk-at_ok (Named m.tapes) f k.tapes_named, leb-true (forecast_work m.states) (length w) (and_true room _ (sym g)).1)

        -- the forecasts of the pairs
        pub answer_told : (l : ForecastList) → forecasts_as l ≡ map (forecast_of (table_of m)) (tapes_of (pairs_as list)) → answer_as (Ok l) ≡ forecast_answer m ps room w
        answer_told l q =
            ap ok (q ∙ ap (map (forecast_of (table_of m))) (IfOk-at_ok (λ (x : PairList). tapes_of (pairs_as x) ≡ ps) f k.pairs))
            ∙ sym (answer_in_turn ∙ rw (← e, f, ← g))

-- ---- the outcome

-- work space cleared
pub call_cleared : (a b : Answer (List Forecast)) (w u v : List ℕ) → a ≡ b → length u ≡ length v → w ≡ replicate (length u) 0 → foretold_of a w ≡ foretold_of b (cleared v)
call_cleared a b w u v e f g = ap₂ foretold_of e (g ∙ ap (λ (n : ℕ). replicate n 0) f)

-- ---- the records

-- they fit where those of the answer do
pub records_fit : (l : ForecastList) (n : ℕ) → length l.forecasts ≡ 4 → l.used ≤ 4 → Recordable (answer_as (Ok l)) n → forecast_size * l.used ≤ n
records_fit l n four few r = omega (arith, r, used_count l four few)

-- room for the records of all pairs, counted in whole records
pub room_is : (bytes result : List ℕ) → leb (length bytes / 3) (length result / 6) ≡ enough (forecast_size * length (tapes_of (pairs_of bytes))) result
room_is bytes result = go (leb (length bytes / 3) (length result / 6)) refl
  where
    go : (b : Bool) → leb (length bytes / 3) (length result / 6) ≡ b → b ≡ enough (forecast_size * length (tapes_of (pairs_of bytes))) result
    go true q =
        sym (le-leb (forecast_size * length (tapes_of (pairs_of bytes))) (length result)
        (omega (arith, pairs_count bytes, length_tapes (pairs_of bytes), leb-true (length bytes / 3) (length result / 6) q)))
    go false q =
        sym (lt-leb (forecast_size * length (tapes_of (pairs_of bytes))) (length result)
        (omega (arith, pairs_count bytes, length_tapes (pairs_of bytes), leb-false (length bytes / 3) (length result / 6) q)))

-- the records of forecasts that are told fit
pub answer_recordable : (m : Memory) (ps : List Pair) (room : Bool) (w result : List ℕ) (a : Answer (List Forecast)) → a ≡ forecast_answer m ps room w
    → room ≡ enough (forecast_size * length ps) result → Recordable a (length result)
answer_recordable m ps room w result (refused n) e f = tt
answer_recordable m ps room w result (ok fs) e f =
    let t = told_of_lem m ps room w fs (sym e) in
    omega (arith, told_count m ps room fs t, leb→le (forecast_size * length ps) (length result) (rw f at t.roomy))

-- an answer and what it leaves are the outcome
pub call_recorded : (m : Memory) (ps : List Pair) (room : Bool) (w u result out : List ℕ) (a : Answer (List Forecast)) → room ≡ enough (forecast_size * length ps) result
    → foretold_of a u ≡ foretold_of (forecast_answer m ps room w) (cleared w) → out ≡ recorded a result → recorded_of (record_bytes a) out u ≡ forecast_recorded m ps result w
unfolding forecast_recorded print
call_recorded m ps room w u result out a f e g =
    let x : a ≡ forecast_answer m ps (enough (forecast_size * length ps) result) w
    = ap (λ (o : Foretold). o.answer) e ∙ ap (λ (b : Bool). forecast_answer m ps b w) f in
    ap₂ (recorded_of (record_bytes a)) g (ap (λ (o : Foretold). o.work) e) ∙ go a ∙ ap (λ (b : Answer (List Forecast)). record { written = print (b >>= λ fs. ok (forecast_records fs)) result; work = cleared w }) x
  where
    go : (b : Answer (List Forecast)) → recorded_of (record_bytes b) (recorded b result) (cleared w) ≡ record { written = print (b >>= λ fs. ok (forecast_records fs)) result; work = cleared w }
    go (ok fs) = refl
    go (refused n) = refl
