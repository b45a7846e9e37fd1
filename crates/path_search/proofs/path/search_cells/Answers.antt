use mathlib.Core.Path.{◌∙◌}
use Rattle.path_search.proofs.CellsFacts.{started_kept, started_weights, cells_searched}
use Rattle.path_search.proofs.path.search_cells.Goals as goal

pub search-requires : goal.search-requires
search-requires c =
    let s = c in
    let n = c.enter_starts-found in (
      s.requires.0,
      s.requires.1,
      started_weights _ _ _ _ _ _ s.requires.1 _ _ s.requires.4 _ _ n.ensures.0 n.ensures.1 s.requires.3,
      started_kept _ _ _ _ _ _ s.requires.1 _ _ s.requires.4 _ _ n.ensures.0,
      c.chain_arcs.ensures,
    )

pub returns : goal.returns
returns c =
    let s = c in
    let n = c.enter_starts-found in
    let r = c.search in
    (cells_searched _ _ _ _ _ _ s.requires.1 _ _ s.requires.4 _ _ n.ensures.0 _ r.ensures.0, r.ensures.1 ∙ n.ensures.1)
