use Rattle.table.proofs.RecordFacts.{array_of}
use Rattle.intersect_config.specs.Configs.{row_size}
use Rattle.intersect_config.proofs.config.load_row.Goals as goal

pub returns : goal.returns
returns c = let s = c in array_of s.args.at row_size s.args.work.now _ s.requires c.copy_into.ensures
