use Rattle.intersect_config.proofs.StepFacts.{label_length, read_length, pair_advances}
use Rattle.intersect_config.proofs.step.advance_pair.Goals as goal

pub read_label-x-requires : goal.read_label-x-requires
read_label-x-requires c = label_length _ _ _ _ c.label_at.ensures c.requires.1.1.1.0

pub read_label-y-requires : goal.read_label-y-requires
read_label-y-requires c = label_length _ _ _ _ c.label_at-2.ensures c.requires.1.1.1.1

pub advance-requires : goal.advance-requires
advance-requires c = (
  c.requires.1.1.0,
  (
    read_length _ _ c.read_label-x.ensures (label_length _ _ _ _ c.label_at.ensures c.requires.1.1.1.0),
    read_length _ _ c.read_label-y.ensures (label_length _ _ _ _ c.label_at-2.ensures c.requires.1.1.1.1),
  ),
)

pub returns : goal.returns
returns c = pair_advances c.args.at c.args.arcs.now c.args.p c.args.l _ _ _ _ _ c.label_at.ensures c.label_at-2.ensures
    c.read_label-x.ensures c.read_label-y.ensures c.advance.ensures
