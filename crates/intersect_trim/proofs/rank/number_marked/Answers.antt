use mathlib.Core.Path.{sym, ◌∙◌}
use native.Mathlib.Omega.{arith}
use lib.Dec.{eqb}
use lib.ListN.{get_or}
use Rattle.automata.proofs.RankFacts.{rank_zero}
use Rattle.intersect_trim.proofs.RowFacts.{byte_bit, byte_small}
use Rattle.intersect_trim.proofs.RankFacts.{rank_step, number_step}
use Rattle.intersect_trim.proofs.rank.number_marked.Goals as goal

pub loop-i-init : goal.loop-i-init
loop-i-init c = (omega arith, sym (rank_zero _), λ k l. absurd (omega arith))

pub loop-i-preserved : goal.loop-i-preserved
loop-i-preserved c =
    let l = c.loop-i in
    let v = c.from-kept.ensures in (
      omega (arith, v, byte_small (eqb (get_or c.args.marks.now l.i 0) 1)),
      rank_step _ _ _ _ _ c.loop-i-test.true l.invariant.1 (v ∙ byte_bit _),
      number_step l.i _ _ l.ranks (omega arith) l.invariant.1 l.invariant.2,
    )
