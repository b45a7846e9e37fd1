use Rattle.agree_text.proofs.KeptFacts.{kept_refused, kept_table, lent_slices, lent_work, room-lent, work_lent_lem, wrote_as}
use mathlib.Core.Path.{ap}
use Rattle.automata.specs.AgreeText.{write_output}
use Rattle.pairs.specs.PairBytes.{pairs_of}
use Rattle.table.specs.Answers.{memory}
use Rattle.agree_text.proofs.keep.keep_table.Goals as goal

pub returns-in-Ok : goal.returns-in-Ok
returns-in-Ok c =
    let m = memory c.args.table.now in
    wrote_as _ _ _ _ _ (ap write_output (kept_table m c.requires.0 (pairs_of c.args.pairs.now) lent_slices lent_work room-lent work_lent_lem c.intersect-kept.result _ _ _ c.intersect-kept.ensures _ c.in-Ok.is)) c.print_table.ensures

pub returns-in-Err : goal.returns-in-Err
returns-in-Err c =
    let m = memory c.args.table.now in
    wrote_as _ _ _ _ _ (ap write_output (kept_refused m c.requires.0 (pairs_of c.args.pairs.now) lent_slices lent_work room-lent work_lent_lem c.intersect-kept.result _ _ _ c.intersect-kept.ensures _ c.in-Err.is)) c.write_refusal.ensures
