use mathlib.Core.Path.{◌∙◌}
use Prim.Native.Nat.{◌-◌}
use native.Mathlib.Omega.{arith}
use Rattle.delays.proofs.PairFacts.{viable_then, closable_stop, closable_turn, closable_end}
use Rattle.delays.proofs.viable_at.Goals as goal

pub returns-then-not-closable : goal.returns-then-not-closable
returns-then-not-closable c =
    let l = c.loop-h in
    viable_then _ _ _ _ _ _ _ c.get16.ensures c.if-get16.false (closable_stop _ l.h _ _ _ _ c.closable.ensures (c.args.used - l.h) (omega arith) c.if-not-closable.true ∙ l.invariant)

pub loop-h-preserved : goal.loop-h-preserved
loop-h-preserved c =
    let l = c.loop-h in
    closable_turn _ l.h _ _ _ _ c.closable.ensures (c.args.used - l.h) _ _ (omega arith) (omega arith) c.if-not-closable.false ∙ l.invariant

pub returns : goal.returns
returns c =
    let l = c.loop-h in
    viable_then _ _ _ _ _ _ _ c.get16.ensures c.if-get16.false (closable_end _ l.h (c.args.used - l.h) _ _ _ (omega arith) ∙ l.invariant)
