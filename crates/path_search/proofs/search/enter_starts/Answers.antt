use Rattle.path_search.proofs.SearchedFacts.{starting_turn, starting_end}
use native.Mathlib.Omega.{arith}
use Rattle.path_search.proofs.search.enter_starts.Goals as goal

pub loop-q-preserved : goal.loop-q-preserved
loop-q-preserved c =
    let e = c.enter_start-found.ensures in
    starting_turn _ _ _ _ _ _ _ _ c.loop-q.invariant c.requires.1 c.loop-q-test.true _ _ e.0 e.1

pub returns : goal.returns
returns c =
    let i = c.loop-q.invariant in (starting_end _ _ _ _ _ _ _ _ i (omega (arith, c.loop-q-test.false)), i.same_length)
