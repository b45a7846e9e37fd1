use Rattle.std.specs.Prelude.{Result, ◌≤◌}
use Rattle.automata.specs.Calls.Forecast.{record_bytes}
use Rattle.forecast_records.specs.declared.ForecastList.{ForecastList}
use Rattle.forecast_records.specs.Values.{answer_as}
use Rattle.table.specs.declared.answer.Refusal.{Refusal}
use mathlib.Core.Path.{◌≡◌, sym, ap, ◌∙◌}
use lib.ListN.{length}
use Rattle.forecast_records.proofs.RecordFacts.{bytes-told}
use Rattle.c_answers.specs.Words.{bytes_word}
use borrow.Author.Rules.{rules}
use Rattle.c_answers.proofs.word.forecast_word.Goals as goal

pub returns-in-Ok : goal.returns-in-Ok
returns-in-Ok c =
    let four : length c.in-Ok.list.forecasts ≡ 4 = search rules in
    let few : c.in-Ok.list.used ≤ 4 = rw c.in-Ok.is at c.requires in
    c.shifted.ensures ∙ ap bytes_word (sym (bytes-told c.in-Ok.list four few)) ∙ ap (λ (a : Result ForecastList Refusal). bytes_word (record_bytes (answer_as a))) (sym c.in-Ok.is)
