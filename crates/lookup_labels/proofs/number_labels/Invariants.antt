use Rattle.lookup_labels.proofs.NumberFacts.{Numbering}
use Rattle.lookup_labels.proofs.number_labels.Given as goal

abbrev pub invariant-loop-e : goal.invariant-loop-e
invariant-loop-e l = Numbering l.arcs l.words l.e l.owners l.numbers
