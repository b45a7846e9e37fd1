use Rattle.tomchoen.proofs.WordFacts.{recorded-told}
use Rattle.tomchoen.proofs.c.tomchoen_forecast.Goals as goal

pub returns : goal.returns
returns c = recorded-told _ _ _ _ _ (rw c.lent-table.ensures at c.forecast_into-answer.ensures.1) c.forecast_word.ensures
