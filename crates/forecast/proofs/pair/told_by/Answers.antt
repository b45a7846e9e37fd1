use mathlib.Core.Path.{refl}
use Rattle.forecast.proofs.ToldFacts.{told_over_lem, told-number}
use Rattle.forecast.proofs.pair.told_by.Goals as goal

pub returns-in-Ok : goal.returns-in-Ok
returns-in-Ok c = told-number _ _ c.args.delay _ _ _ (rw c.from.ensures at c.capped_sum-sum.ensures) refl c.in-Ok.ensures.0 c.in-Ok.ensures.1

pub returns-in-Err : goal.returns-in-Err
returns-in-Err c = told_over_lem _ _ c.args.delay _ _ (rw c.from.ensures at c.capped_sum-sum.ensures) refl c.in-Err.ensures
