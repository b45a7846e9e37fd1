use Rattle.table.proofs.RecordFacts.{flagged_stored}
use Rattle.table.proofs.record.put_flagged.Goals as goal

pub returns : goal.returns
returns c = let s = c in flagged_stored s.args.at s.args.flag s.args.v s.args.bytes.now _ s.requires c.put32.ensures
