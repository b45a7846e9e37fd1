use mathlib.Core.Path.{◌≡◌}
use lib.ListN.{length}
use Rattle.intersect_config.specs.Steps.{read_to}
use Rattle.intersect_config.proofs.step.read_label.Given as goal

abbrev pub invariant-loop-i : goal.invariant-loop-i
invariant-loop-i l = (length l.x.symbols ≡ 8) × (l.symbols ≡ read_to l.i l.x.symbols)
