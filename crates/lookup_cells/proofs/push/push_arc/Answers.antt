use mathlib.Core.Path.{◌∙◌}
use Rattle.lookup_cells.proofs.PushFacts.{pushes_far, pushes_near}
use Rattle.lookup_cells.proofs.push.push_arc.Goals as goal

pub returns-then-near : goal.returns-then-near
returns-then-near c =
    let v = c.visit_arc-near.ensures in
    (pushes_near _ _ _ _ _ c.requires.0 _ _ _ _ _ _ v.0 c.if-near.true (c.from.ensures ∙ c.source_at.ensures) c.requires.1 c.enqueue.ensures, v.1)

pub returns-else-near : goal.returns-else-near
returns-else-near c =
    let v = c.visit_arc-near.ensures in
    (pushes_far _ _ _ _ _ c.requires.0 _ _ _ _ c.requires.3 v.0 c.if-near.false, v.1)
