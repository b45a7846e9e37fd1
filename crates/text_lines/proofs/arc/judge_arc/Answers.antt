use Rattle.text_columns.specs.Columns.{number_as}
use Rattle.text_columns.proofs.WeightFacts.{judged_and}
use Rattle.text_lines.proofs.ArcFacts.{arc_judged}
use Rattle.text_lines.proofs.arc.judge_arc.Goals as goal

pub returns : goal.returns
returns c =
    arc_judged _ _ _ _ _ (number_as c.args.source) (number_as c.args.target) (number_as c.args.weight) _ _ _ _
    (rw c.and-3.ensures (judged_and _)) (rw c.and-2.ensures (judged_and _)) (rw c.and.ensures (judged_and _))
    c.both-from_weight.ensures c.both-from_target.ensures c.both-from_source.ensures c.both.ensures
