use mathlib.Core.Path.{◌≡◌, refl, sym, ◌∙◌}
use native.Mathlib.Omega.{arith}
use lib.ListN.{length}
use borrow.Author.Rules.{rules}
use Rattle.table.proofs.RegionFacts.{splice-none, splice_front}
use Rattle.automata.specs.Calls.Forecast.{forecast_records}
use Rattle.forecast_records.specs.Values.{forecasts_as}
use Rattle.forecast_records.proofs.RecordFacts.{records_turn}
use Rattle.forecast_records.proofs.put_forecasts.Goals as goal

pub loop-h-init : goal.loop-h-init
loop-h-init c = sym (splice-none _ _)

pub loop-h-preserved : goal.loop-h-preserved
loop-h-preserved c =
    let l = c.loop-h in
    let k : length c.args.list.forecasts ≡ 4 = search rules in
    records_turn c.args.list.forecasts l.h _ (omega (arith, k, c.loop-h-test.true, c.requires.0)) _ _ _ _ refl (omega (arith, c.loop-h-test.true, c.requires.1)) l.invariant c.put_forecast.ensures

pub returns : goal.returns
returns c =
    let e : c.loop-h.h ≡ c.args.list.used = omega arith in
    rw e at c.loop-h.invariant ∙ splice_front (forecast_records (forecasts_as c.args.list)) _
