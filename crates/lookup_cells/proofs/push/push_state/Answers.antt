use Rattle.lookup_cells.proofs.PushFacts.{chaining_start, chaining_turn, spaced_kept}
use Rattle.lookup_cells.proofs.push.push_state.Goals as goal

pub loop-e-init : goal.loop-e-init
loop-e-init c = (chaining_start _ _ _ _ _ c.requires.3.chained _ c.requires.0 _ _ _ c.requires.3.lined c.from-e.ensures, c.requires.4)

pub push_arc-requires : goal.push_arc-requires
push_arc-requires c =
    let l = c.loop-e in
    let i = l.invariant.0.spreads in
    (c.loop-e-test.true, c.requires.1, spaced_kept _ _ _ _ _ _ _ i.same_length i.reach c.requires.2, i.lined, l.invariant.1)

pub loop-e-preserved : goal.loop-e-preserved
loop-e-preserved c =
    let l = c.loop-e in
    let p = c.push_arc.ensures in
    (chaining_turn _ _ _ _ _ c.requires.3.chained _ c.requires.0 _ _ _ _ _ l.invariant.0 _ _ _ c.loop-e-test.true c.from-e-in-loop-e.ensures p.0, p.1)
