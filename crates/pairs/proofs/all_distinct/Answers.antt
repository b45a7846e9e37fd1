use mathlib.Core.Path.{sym, ◌∙◌}
use Rattle.pairs.proofs.ListFacts.{distinct-twice, distinct-later}
use Rattle.pairs.proofs.all_distinct.Goals as goal

pub returns-then-contains : goal.returns-then-contains
returns-then-contains c = sym (distinct-twice c.loop-i.i c.args.numbers.now c.loop-i-test.true _ c.contains.ensures.value c.if-contains.true) ∙ c.loop-i.invariant

pub loop-i-preserved : goal.loop-i-preserved
loop-i-preserved c = distinct-later c.loop-i.i c.args.numbers.now c.loop-i-test.true _ c.contains.ensures.value c.if-contains.false ∙ c.loop-i.invariant
