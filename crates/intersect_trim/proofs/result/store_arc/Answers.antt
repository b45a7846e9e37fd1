use Rattle.intersect_trim.proofs.ResultFacts.{arc_stored}
use Rattle.intersect_trim.proofs.result.store_arc.Goals as goal

pub returns : goal.returns
returns c = let s = c in arc_stored _ _ _ _ _ _ _ s.requires.2 s.requires.3 c.store_ends.ensures c.copy_content.ensures
