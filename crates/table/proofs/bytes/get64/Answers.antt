use native.Mathlib.Omega.{arith}
use Rattle.table.proofs.EndianFacts.{le_eight}
use Rattle.table.proofs.bytes.get64.Goals as goal

pub returns : goal.returns
returns c = omega (arith, c.get32-low.ensures, c.get32-high.ensures, le_eight c.args.at c.args.bytes.now c.requires)
