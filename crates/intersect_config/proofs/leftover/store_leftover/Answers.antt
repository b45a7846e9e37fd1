use mathlib.Core.Path.{◌∙◌}
use borrow.Author.Rules.{rules}
use Rattle.intersect_config.proofs.RecordFacts.{flag_byte, leftover_stored}
use Rattle.intersect_config.proofs.leftover.store_leftover.Goals as goal

pub returns : goal.returns
returns c = leftover_stored c.args.at c.args.l _ c.args.work.now _ c.requires (search rules) (c.from.ensures ∙ flag_byte c.args.l.second) c.copy_into.ensures
