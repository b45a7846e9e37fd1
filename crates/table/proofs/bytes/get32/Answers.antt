use native.Mathlib.Omega.{arith}
use Rattle.table.proofs.EndianFacts.{le_four}
use Rattle.table.proofs.bytes.get32.Goals as goal

pub returns : goal.returns
returns c = omega (arith, c.from_le_bytes.ensures, le_four c.args.at c.args.bytes.now c.requires)
