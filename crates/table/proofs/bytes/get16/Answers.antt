use native.Mathlib.Omega.{arith}
use Rattle.table.proofs.EndianFacts.{le-two}
use Rattle.table.proofs.bytes.get16.Goals as goal

pub returns : goal.returns
returns c = omega (arith, c.from_le_bytes.ensures, le-two c.args.at c.args.bytes.now c.requires)
