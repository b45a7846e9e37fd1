use Rattle.table.proofs.ArcFacts.{ends_stored}
use Rattle.table.proofs.arc.store_ends.Goals as goal

pub returns : goal.returns
returns c =
    let s = c in
    ends_stored _ _ _ _ _ _ s.requires c.put16.ensures c.put16-2.ensures
