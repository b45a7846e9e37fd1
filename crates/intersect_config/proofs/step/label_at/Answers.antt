use Rattle.intersect_config.proofs.StepFacts.{label_loaded}
use Rattle.table.proofs.RecordFacts.{array_of}
use native.Mathlib.Omega.{arith}
use Rattle.intersect_config.proofs.step.label_at.Goals as goal

pub returns : goal.returns
returns c = let s = c in let d = c.label_place-from.ensures in
    label_loaded s.args.at s.args.tape s.args.arcs.now _ _ _ d c.label_length_at.ensures
    (array_of _ 8 s.args.arcs.now _ (omega (arith, s.requires, d)) c.copy_into.ensures)
