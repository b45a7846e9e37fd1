use mathlib.Core.Path.{refl, sym, ◌∙◌}
use mathlib.Core.Bool.{false≢true}
use Prim.Native.Nat.{◌-◌}
use native.Mathlib.Omega.{arith}
use Rattle.intersect_edges.proofs.MarkFacts.{joined_at, sweep-start, sweep_turn}
use Rattle.intersect_edges.proofs.mark.round_marks.Goals as goal

pub loop-i-init : goal.loop-i-init
loop-i-init c = sweep-start _ _ _ _

pub mark_source-kept-requires : goal.mark_source-kept-requires
mark_source-kept-requires c =
    let j = joined_at _ _ _ (c.loop-i.i - 1) _ _ _ c.requires.2 (omega arith) refl c.load_edge.ensures in
    (omega (arith, j.0), omega (arith, j.1))

pub loop-i-preserved-then-same : goal.loop-i-preserved-then-same
loop-i-preserved-then-same c = sweep_turn _ _ _ _ _ _ _ c.loop-i.invariant _ _ _ (omega arith) (omega arith) (rw c.load_edge.ensures at c.mark_source-kept.ensures) (λ t. (c.if-same.true, t))

pub loop-i-preserved : goal.loop-i-preserved
loop-i-preserved c = sweep_turn _ _ _ _ _ _ _ c.loop-i.invariant _ _ _ (omega arith) (omega arith) (rw c.load_edge.ensures at c.mark_source-kept.ensures)
    (λ t. absurd (false≢true (sym c.if-same.false ∙ t)))
