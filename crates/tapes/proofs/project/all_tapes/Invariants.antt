use mathlib.Core.Path.{◌≡◌}
use lib.ListN.{drop}
use Rattle.automata.specs.Lists.{all}
use Rattle.automata.specs.Projection.{is_tape}
use Rattle.tapes.proofs.project.all_tapes.Given as goal

abbrev pub invariant-loop-tape : goal.invariant-loop-tape
invariant-loop-tape l = all (is_tape l.count) (drop l.tape-index l.tapes) ≡ all (is_tape l.count) l.tapes
