use Rattle.std.proofs.Common.{map}
use Rattle.automata.specs.TapePair.{tapes_of}
use Rattle.automata.specs.Calls.Forecast.{forecast_outcome}
use Rattle.table.specs.Pairs.{pair_as}
use Rattle.pairs_forecast.proofs.forecast.Goals as goal

pub forecast_judged-requires : goal.forecast_judged-requires
forecast_judged-requires c = record { pairs = tapes_of (map pair_as c.args.pairs.now); judged = c.judge_record_tapes-listed.ensures }

pub returns : goal.returns
unfolding forecast_outcome
returns c = c.forecast_judged.ensures.1 (tapes_of (map pair_as c.args.pairs.now)) c.judge_record_tapes-listed.ensures
