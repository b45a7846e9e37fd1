use Rattle.table.proofs.GoodFacts.{first_highest}
use Rattle.table.proofs.good.first_highest.Goals as goal

pub returns : goal.returns
returns c = first_highest c.args.len c.requires
