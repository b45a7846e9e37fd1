use native.Mathlib.Omega.{arith}
use Rattle.table.proofs.GoodFacts.{arc_good}
use Rattle.table.proofs.good.good_arc.Goals as goal

pub returns : goal.returns
returns c =
    let s = c in
    λ e. arc_good s.args.tapes s.args.states s.args.arc.now s.requires.0 (λ i. omega (arith, c.type_inv.arc i)) _ _ _ c.get16.ensures c.get16-2.ensures c.get32.ensures c.if-states-get16.false c.if-states-get16-2.false c.if-get32-gt999999999.false (c.good_tapes.ensures e)
