use native.Mathlib.Omega.{arith}
use Rattle.table.proofs.JudgeFacts.{judged_arc}
use Rattle.table.proofs.judge.judge_arc_record.Goals as goal

pub returns : goal.returns
returns c = let s = c in judged_arc s.args.tapes s.args.states s.args.arc.now s.requires.0 (λ i. omega (arith, c.type_inv.arc i)) _ _ _ c.get16.ensures c.get16-2.ensures c.get32.ensures _ _ _ _ _ _ _ c.demand-source.ensures c.demand-target.ensures c.demand-weight.ensures c.judge_tapes-labels.ensures c.both.ensures c.both-2.ensures c.both-3.ensures
