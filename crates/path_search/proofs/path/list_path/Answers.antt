use native.Mathlib.Omega.{arith}
use Rattle.path_search.proofs.ListFacts.{short-told, path-told}
use Rattle.path_search.proofs.path.list_path.Goals as goal

pub returns-then-list-count : goal.returns-then-list-count
returns-then-list-count c = short-told _ _ _ _ _ _ _ _ _ c.count_arcs-count.ensures c.if-list-count.true

pub returns : goal.returns
returns c =
    let w = c.write_arcs-first.ensures in
    path-told _ _ _ _ _ _ _ _ _ c.count_arcs-count.ensures _ _ w.0 w.1 (omega (arith, c.if-list-count.false))
