use Rattle.text.proofs.WrittenFacts.{text_fits}
use native.Mathlib.Omega.{arith}
use Rattle.text.proofs.text_length.Goals as goal

pub overflow_mul-result-3 : goal.overflow_mul-result-3
overflow_mul-result-3 c = let s = c in omega (arith, text_fits s.args.counts.tapes s.args.counts.states s.args.counts.arcs s.requires.0 s.requires.1.0 s.requires.1.1)

pub overflow_add-result-3 : goal.overflow_add-result-3
overflow_add-result-3 c = let s = c in omega (arith, text_fits s.args.counts.tapes s.args.counts.states s.args.counts.arcs s.requires.0 s.requires.1.0 s.requires.1.1)
