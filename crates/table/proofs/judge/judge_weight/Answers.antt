use native.Mathlib.Omega.{arith}
use Rattle.table.proofs.JudgeFacts.{judged_absent, judged_flag, judged_present}
use Rattle.table.proofs.judge.judge_weight.Goals as goal

pub returns-then-flag-eq-ABSENT : goal.returns-then-flag-eq-ABSENT
returns-then-flag-eq-ABSENT c = let s = c in judged_absent s.args.at s.args.bytes.now s.requires (λ i. omega (arith, c.type_inv.bytes i)) _ _ c.get32-n.ensures c.if-flag-eq-ABSENT.true c.demand.ensures

pub returns-then-flag-ne-PRESENT : goal.returns-then-flag-ne-PRESENT
returns-then-flag-ne-PRESENT c = let s = c in judged_flag s.args.at s.args.bytes.now s.requires (λ i. omega (arith, c.type_inv.bytes i)) c.if-flag-eq-ABSENT.false c.if-flag-ne-PRESENT.true

pub returns : goal.returns
returns c = let s = c in judged_present s.args.at s.args.bytes.now s.requires (λ i. omega (arith, c.type_inv.bytes i)) _ _ c.get32-n.ensures c.if-flag-ne-PRESENT.false c.demand-2.ensures
