use native.Mathlib.Omega.{arith}
use Rattle.lookup_labels.proofs.NumberFacts.{numbering_end}
use Rattle.lookup_labels.proofs.number_labels.Goals as goal

pub returns : goal.returns
returns c = numbering_end _ _ _ _ c.loop-e.e _ _ c.words_of-words.ensures.0 (omega arith) c.loop-e.invariant
