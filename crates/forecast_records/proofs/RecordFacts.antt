-- Facts of the records of forecasts.
use Prim.Native.Nat.{ℕ, suc, ◌+◌, ◌*◌, ◌≤◌, ◌<◌}
use mathlib.Core.Path.{◌≡◌, sym, ap, ◌∙◌}
use mathlib.Core.List.{List, [], ◌∷◌, ◌++◌, map, append-nil}
use native.Mathlib.Omega.{arith}
use lib.ListN.{length, get_or, take, length-take, length-map}
use lib.Seq.{take-suc}
use Rattle.automata.specs.Lists.{concat}
use Rattle.automata.specs.Answer.{ok}
use Rattle.automata.specs.Calls.Forecast.{forecast_size, forecast_parts, forecast_record, forecast_records, record_bytes}
use Rattle.automata.proofs.ListFacts.{map_append}
use Rattle.automata.proofs.AppendFacts.{concat_append}
use Rattle.automata.proofs.ForecastCalls.{length_record, length_records}
use Rattle.std.specs.Prelude.{Ok}
use Rattle.table.specs.Region.{splice}
use Rattle.table.specs.Endian.{to_le}
use Rattle.table.proofs.RegionFacts.{splice_append}
use Rattle.forecast_records.specs.declared.Forecast.{Forecast}
use Rattle.forecast_records.specs.declared.ForecastList.{ForecastList}
use Rattle.forecast_records.specs.Values.{forecast_as, forecasts_as, answer_as}

-- ---- one record

-- three numbers one behind the other
pub parts_stored : (at which delay n : ℕ) (w u t v : List ℕ) → at + forecast_size ≤ length v → t ≡ splice at (to_le 2 which) v → u ≡ splice (at + 2) (to_le 2 delay) t
    → w ≡ splice (at + 4) (to_le 2 n) u → w ≡ splice at (forecast_parts which delay n) v
parts_stored at which delay n w u t v l e f g =
    g ∙ ap (splice (at + 4) (to_le 2 n)) (f ∙ ap (splice (at + 2) (to_le 2 delay)) e ∙ splice_append at (to_le 2 which) (to_le 2 delay) v (omega arith))
    ∙ splice_append at (to_le 2 which ++ to_le 2 delay) (to_le 2 n) v (omega arith)

-- ---- several

-- the forecasts that are used, of four
pub used_count : (l : ForecastList) → length l.forecasts ≡ 4 → l.used ≤ 4 → length (forecasts_as l) ≡ l.used
used_count l four few = omega (arith, length-map (take l.used l.forecasts) forecast_as, length-take l.used l.forecasts, four)

-- the bytes of the records of an answer without a refusal
pub bytes-told : (l : ForecastList) → length l.forecasts ≡ 4 → l.used ≤ 4 → record_bytes (answer_as (Ok l)) ≡ ok (forecast_size * l.used)
bytes-told l four few = ap ok (length_records (forecasts_as l) ∙ ap (λ (n : ℕ). forecast_size * n) (used_count l four few))

-- a record behind others
module _ (fs : List Forecast) (h : ℕ) (d : Forecast) (lt : h < length fs) where
  records-next : forecast_records (map forecast_as (take (suc h) fs)) ≡ forecast_records (map forecast_as (take h fs)) ++ forecast_record (forecast_as (get_or fs h d))
  records-next =
      ap (λ (xs : List Forecast). forecast_records (map forecast_as xs)) (take-suc fs h d lt)
      ∙ ap forecast_records (map_append forecast_as (take h fs) (get_or fs h d ∷ []))
      ∙ ap concat (map_append forecast_record (map forecast_as (take h fs)) (forecast_as (get_or fs h d) ∷ []))
      ∙ concat_append (map forecast_record (map forecast_as (take h fs))) (forecast_record (forecast_as (get_or fs h d)) ∷ [])
      ∙ ap (λ (xs : List ℕ). forecast_records (map forecast_as (take h fs)) ++ xs) (append-nil (forecast_record (forecast_as (get_or fs h d))))

  -- a turn of the loop that writes them
  pub records_turn : (n : ℕ) (w u v : List ℕ) → n ≡ h + 1 → forecast_size * h + forecast_size ≤ length v → u ≡ splice 0 (forecast_records (map forecast_as (take h fs))) v
      → w ≡ splice (forecast_size * h) (forecast_record (forecast_as (get_or fs h d))) u → w ≡ splice 0 (forecast_records (map forecast_as (take n fs))) v
  records_turn n w u v q l e g =
      let r = forecast_records (map forecast_as (take h fs)) in
      let x = forecast_record (forecast_as (get_or fs h d)) in
      let next : suc h ≡ n = omega arith in
      let k : 0 + length r ≡ forecast_size * h
      = omega (arith, length_records (map forecast_as (take h fs)), length-map (take h fs) forecast_as, length-take h fs, lt) in
      g ∙ ap (splice (forecast_size * h) x) e ∙ ap (λ (k : ℕ). splice k x (splice 0 r v)) (sym k)
      ∙ splice_append 0 r x v (omega (arith, k, l, length_record (forecast_as (get_or fs h d)))) ∙ ap (λ (y : List ℕ). splice 0 y v) (sym records-next)
      ∙ ap (λ (i : ℕ). splice 0 (forecast_records (map forecast_as (take i fs))) v) next
