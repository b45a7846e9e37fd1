use mathlib.Core.Path.{refl}
use native.Mathlib.Omega.{arith}
use borrow.Author.Tests.{ltb-true}
use Rattle.delays_relaxation.specs.Lowered.{none}
use Rattle.delays_relaxation.proofs.RunFacts.{run_turn}
use Rattle.delays_relaxation.proofs.cycles.lessens.Goals as goal

pub loop-step-init : goal.loop-step-init
loop-step-init c = (none, omega arith, omega arith)

pub returns-then-p-q : goal.returns-then-p-q
returns-then-p-q c = λ t. record {
  up = _;
  down = _;
  closed = rw c.if-p-q.true at (run_turn _ _ _ _ _ _ _ _ _ _ _ _ c.if-count-k.false refl c.edge_at-e.ensures c.if-e-p.false c.loop-step.invariant.0);
  less = ltb-true _ _ t;
}

pub loop-step-preserved : goal.loop-step-preserved
loop-step-preserved c =
    let l = c.loop-step in
    (run_turn _ _ _ _ _ _ _ _ _ _ _ _ c.if-count-k.false refl c.edge_at-e.ensures c.if-e-p.false l.invariant.0, omega (arith, l.invariant.1), omega (arith, l.invariant.2))
