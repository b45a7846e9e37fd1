use Rattle.path_search.proofs.TightFacts.{laid_parts, ends_are}
use mathlib.Core.Path.{◌∙◌}
use Rattle.path_search.proofs.tight.ends_at.Goals as goal

pub moved_back-requires : goal.moved_back-requires
moved_back-requires c =
    let r = c.requires.0.ready _ c.requires.2 in
    ((r.each _ c.requires.1).labelled, laid_parts _ _ c.spot_at-spot.ensures _ _ r.laid)

pub returns : goal.returns
returns c = c.is_some.ensures ∙ ends_are _ _ c.spot_at-spot.ensures _ _ _ _ _ c.moved_back.ensures
