use Rattle.table.proofs.ArcFacts.{content_copied}
use Rattle.table.proofs.arc.copy_content.Goals as goal

pub returns : goal.returns
returns c = content_copied _ _ _ _ _ c.copy_into.ensures
