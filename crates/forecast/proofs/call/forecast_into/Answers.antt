use Rattle.forecast.proofs.CallFacts.{room_is, answer_recordable, call_recorded}
use Rattle.automata.specs.TapePair.{tapes_of}
use Rattle.pairs.specs.PairBytes.{pairs_of}
use Rattle.automata.specs.Calls.Forecast.{Foretold}
use mathlib.Core.Path.{ap}
use Rattle.forecast.proofs.call.forecast_into.Goals as goal

pub record_answer-requires : goal.record_answer-requires
record_answer-requires c =
    let f = c.forecast_judged-answer in
    (f.ensures.0, answer_recordable _ (tapes_of (pairs_of c.args.pairs.now)) _ c.args.work.now c.args.res.now _ (ap (λ (o : Foretold). o.answer) (f.ensures.1 _ c.judge_tapes-listed.ensures)) (room_is c.args.pairs.now c.args.res.now))

pub returns : goal.returns
returns c =
    let f = c.forecast_judged-answer in
    (f.ensures.0, call_recorded _ (tapes_of (pairs_of c.args.pairs.now)) _ c.args.work.now _ c.args.res.now _ _ (room_is c.args.pairs.now c.args.res.now) (f.ensures.1 _ c.judge_tapes-listed.ensures) c.record_answer.ensures)
