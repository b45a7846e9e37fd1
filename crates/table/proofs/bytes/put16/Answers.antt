use Rattle.table.proofs.RegionFacts.{two_stores}
use Rattle.table.proofs.bytes.put16.Goals as goal

pub returns : goal.returns
returns c = rw c.to_le_bytes.ensures (two_stores c.args.at _ _ c.args.bytes.now c.requires)
