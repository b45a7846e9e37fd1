use native.Mathlib.Omega.{arith}
use Rattle.tapes_records.proofs.RaiseFacts.{source_raisable, target_raisable, arc-raised}
use Rattle.tapes_records.proofs.raise.raise_arc.Goals as goal

pub overflow_add-source : goal.overflow_add-source
overflow_add-source c = omega (arith, source_raisable c.args.by c.args.at c.args.arcs.now _ c.source_at.ensures c.requires.1.0)

pub overflow_add-target : goal.overflow_add-target
overflow_add-target c = omega (arith, target_raisable c.args.by c.args.at c.args.arcs.now _ c.target_at.ensures c.requires.1.1)

pub returns : goal.returns
returns c = arc-raised c.args.by c.args.at c.args.arcs.now _ _ _ c.requires.0 c.source_at.ensures c.target_at.ensures c.store_ends.ensures
