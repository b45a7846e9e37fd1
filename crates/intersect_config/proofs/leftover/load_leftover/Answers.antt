use Rattle.intersect_config.proofs.RecordFacts.{leftover_loaded}
use Rattle.intersect_config.proofs.leftover.load_leftover.Goals as goal

pub returns : goal.returns
returns c = leftover_loaded c.args.at c.args.work.now _ c.requires c.copy_into.ensures
