use Rattle.table.proofs.EndianFacts.{eight_stored}
use Rattle.table.proofs.bytes.put64.Goals as goal

pub returns : goal.returns
returns c = eight_stored c.args.at c.args.v c.args.bytes.now _ _ c.requires c.put32.ensures c.put32-2.ensures
