use Rattle.std.proofs.Common.{rules, ◌≡◌}
use Rattle.table.specs.Endian.{to_le}
use Rattle.table.proofs.RegionFacts.{four_stores}
use Rattle.table.proofs.bytes.put32.Goals as goal

pub returns : goal.returns
returns c = let e : c.to_le_bytes.result ≡ to_le 4 c.args.v = search rules in rw e (four_stores c.args.at _ _ _ _ c.args.bytes.now c.requires)
