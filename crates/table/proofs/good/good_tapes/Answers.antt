use Rattle.table.proofs.GoodFacts.{tapes_good}
use Rattle.table.proofs.good.good_tapes.Goals as goal

pub returns : goal.returns
returns c =
    let s = c in
    let g = c.good_labels.ensures (c.if-not-good_labels.false) in
    λ e. tapes_good s.args.tapes s.args.labels.now s.requires.0 s.requires.1 g (c.blank_labels.ensures e)
