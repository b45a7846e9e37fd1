use Rattle.tapes_records.proofs.RewriteFacts.{arc-chosen, chosen_few}
use Rattle.tapes_records.proofs.choose.choose_arc.Goals as goal

pub returns : goal.returns
returns c =
    let f = c.labels_start.ensures in
    arc-chosen _ _ _ _ c.args.at c.requires.1 (chosen_few _ _ c.requires.0.few) c.labels_at-labels.ensures (rw (← f) c.copy_into.ensures)
