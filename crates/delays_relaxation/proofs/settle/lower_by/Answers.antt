use mathlib.Core.Path.{refl}
use native.Mathlib.Omega.{arith}
use Rattle.delays_relaxation.proofs.RunFacts.{joined_at}
use Rattle.delays_relaxation.proofs.LowerFacts.{arc_lowers}
use Rattle.delays_relaxation.proofs.settle.lower_by.Goals as goal

pub visit_edge-kept-requires : goal.visit_edge-kept-requires
visit_edge-kept-requires c =
    let s = c.requires in
    let j = joined_at _ _ _ _ 0 _ _ _ _ _ s.0.joined c.if-count-k.false (omega arith) c.edge_at-e.ensures in
    (omega (arith, j.0, s.1), omega (arith, j.1, s.1))

pub returns : goal.returns
returns c =
    let s = c.requires in
    arc_lowers _ _ _ _ _ _ _ _ _ _ _ _ _ s.0 s.1 (λ i. grind arith) c.if-count-k.false refl c.edge_at-e.ensures c.visit_edge-kept.ensures
