use Rattle.table.proofs.AnswerFacts.{handed_on}
use Rattle.forecast.proofs.CallFacts.{table_refused, pairs_refused, space_refused, may_tell, answer_told}
use Rattle.forecast.proofs.call.tell.Goals as goal

pub returns-in_err-judge : goal.returns-in_err-judge
returns-in_err-judge c = rw (handed_on _ _ c.from_residual.ensures.1)
    (tt, λ ps k. table_refused _ ps c.args.room c.args.work.now c.args.listed k _ c.in_err-judge.ensures)

pub returns-in_err-pairs : goal.returns-in_err-pairs
returns-in_err-pairs c = rw (handed_on _ _ c.from_residual-in_err-pairs.ensures.1)
    (tt, λ ps k. pairs_refused _ ps c.args.room c.args.work.now c.args.listed k c.in_ok-judge.ensures _ c.in_err-pairs.was)

pub returns-then-not-has_space : goal.returns-then-not-has_space
returns-then-not-has_space c =
    (tt, λ ps k. space_refused _ ps c.args.room c.args.work.now c.args.listed k c.in_ok-judge.ensures _ c.in_ok-pairs.was c.if-not-has_space.ensures)

pub forecasts_of-requires : goal.forecasts_of-requires
forecasts_of-requires c =
    may_tell _ c.requires.pairs c.args.room c.args.work.now c.args.listed c.requires.judged c.in_ok-judge.ensures _ c.in_ok-pairs.was c.if-not-has_space.ensures

pub returns : goal.returns
returns c = (
  c.forecasts_of.ensures.0,
  λ ps k. answer_told _ ps c.args.room c.args.work.now c.args.listed k c.in_ok-judge.ensures _ c.in_ok-pairs.was c.if-not-has_space.ensures c.forecasts_of.result c.forecasts_of.ensures.1,
)
