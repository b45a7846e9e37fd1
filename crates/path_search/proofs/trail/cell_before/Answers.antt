use Rattle.path_search.proofs.TrailFacts.{before_is}
use Rattle.path_search.proofs.trail.cell_before.Goals as goal

pub shift_of-requires : goal.shift_of-requires
shift_of-requires c =
    let s = c in
    (s.requires.0.labelled _ s.requires.1.arc, s.requires.0.few_tapes, s.requires.0.spannable)

pub returns : goal.returns
returns c =
    let s = c in
    before_is s.args.counts _ s.args.spans _ _ _ _ c.source_at-source.ensures c.shift_of.ensures
