use Rattle.path.proofs.RecordFacts.{told_stored}
use Rattle.path_search.specs.Answers.{told_as}
use Rattle.path.proofs.record.put_told.Goals as goal

pub returns : goal.returns
returns c =
    let s = c in
    told_stored (told_as s.args.told) _ _ _ _ _ s.requires.1 c.put64.ensures c.put64-2.ensures c.put32.ensures c.put32-2.ensures
