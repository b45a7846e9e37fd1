use Rattle.path_search.proofs.FollowArcsFacts.{following_start, following_turn, following_up, following_end}
use Rattle.path_search.proofs.ReadFacts.{weights_kept}
use mathlib.Core.Path.{refl}
use native.Mathlib.Omega.{arith}
use Rattle.path_search.proofs.follow.follow_arcs.Goals as goal

pub loop-e-init : goal.loop-e-init
loop-e-init c =
    let s = c in following_start _ _ _ _ _ s.requires.0 _ _ _ s.requires.4 _ _ s.requires.3 s.requires.2 _ refl

pub follow_arc-count-requires : goal.follow_arc-count-requires
follow_arc-count-requires c =
    let s = c in
    let i = c.loop-e.invariant in
    let l = c.loop-e-test.true in
    (s.requires.0, weights_kept _ _ _ _ i.same_length i.front s.requires.1, i.kept, l, s.requires.4, i.leaves l)

pub loop-e-smaller : goal.loop-e-smaller
loop-e-smaller c =
    let s = c in
    let l = c.loop-e-test.true in
    let u = following_up _ _ _ _ _ s.requires.0 _ _ _ s.requires.4 _ _ s.requires.3 _ _ _ c.loop-e.invariant l _ refl in
    omega (arith, u, l)

pub loop-e-preserved : goal.loop-e-preserved
loop-e-preserved c =
    let s = c in
    let f = c.follow_arc-count.ensures in
    following_turn _ _ _ _ _ s.requires.0 _ _ _ s.requires.4 _ _ s.requires.3 _ _ _ c.loop-e.invariant c.loop-e-test.true _ _ _ refl f.0 f.1

pub returns : goal.returns
returns c =
    let s = c in
    let i = c.loop-e.invariant in
    (following_end _ _ _ _ _ s.requires.0 _ _ _ s.requires.4 _ _ s.requires.3 _ _ _ i (omega (arith, c.loop-e-test.false)), i.same_length)
