use Rattle.lookup_tuple.proofs.JudgementFacts.{judged_placeable, tuple-placed}
use Rattle.lookup_tuple.proofs.judge.judge_tuple.Goals as goal

pub place-requires : goal.place-requires
place-requires c = judged_placeable _ _ c.if-tapes-gt8.false c.in_ok-judge_text.ensures

pub returns : goal.returns
returns c = tuple-placed _ _ _ c.in_ok-judge_text.ensures c.if-tapes-gt8.false c.place.ensures
