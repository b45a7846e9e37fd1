use mathlib.Core.Path.{◌∙◌}
use borrow.Author.Tests.{lt-leb}
use Rattle.product.proofs.CallFacts.{short_states, work_tested}
use Rattle.product.proofs.prepare.enough_work.Goals as goal

pub returns-then-states-work : goal.returns-then-states-work
returns-then-states-work c = work_tested _ _ _ c.if-states-work.true

pub returns-else-states-work : goal.returns-else-states-work
returns-else-states-work c = lt-leb _ _ c.if-states-work.false ∙ short_states _ _ _ c.if-states-work.false
