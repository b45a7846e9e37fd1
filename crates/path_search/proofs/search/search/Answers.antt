use Rattle.path_search.proofs.SearchedFacts.{searching_none, here_lt, searching_found, searching_turn}
use Rattle.path_search.proofs.ReadFacts.{weights_kept}
use native.Mathlib.Omega.{arith}
use Rattle.path_search.proofs.search.search.Goals as goal

pub returns-then-is_end : goal.returns-then-is_end
returns-then-is_end c =
    let s = c in
    let i = c.loop-head.invariant in
    (searching_found _ _ _ _ _ _ _ _ _ _ _ i s.requires.1 c.loop-head-test.true _ c.weight_at-here.ensures _ c.is_end.ensures c.if-is_end.true, i.same_length)

pub follow_arcs-count-requires : goal.follow_arcs-count-requires
follow_arcs-count-requires c =
    let s = c in
    let i = c.loop-head.invariant in
    let l = here_lt _ _ _ _ _ _ _ _ _ _ _ i s.requires.1 c.loop-head-test.true _ c.weight_at-here.ensures in
    (s.requires.1, weights_kept _ _ _ _ i.same_length i.front s.requires.2, i.kept, s.requires.4, l)

pub loop-head-preserved : goal.loop-head-preserved
loop-head-preserved c =
    let s = c in
    let f = c.follow_arcs-count.ensures in
    searching_turn _ _ _ _ _ _ _ _ _ _ _ c.loop-head.invariant s.requires.1 c.loop-head-test.true _ c.weight_at-here.ensures _ c.is_end.ensures c.if-is_end.false _ _ f.0 f.1

pub returns : goal.returns
returns c =
    let i = c.loop-head.invariant in (searching_none _ _ _ _ _ _ _ _ _ _ _ i (omega (arith, c.loop-head-test.false)), i.same_length)
