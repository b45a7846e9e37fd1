use Rattle.path_search.proofs.SearchedFacts.{end_absent, end_early, end_last}
use mathlib.Core.Path.{◌∙◌}
use borrow.Author.Tests.{ne_eqb}
use Rattle.path_search.proofs.search.is_end.Goals as goal

pub returns-then-here-all : goal.returns-then-here-all
returns-then-here-all c = end_last _ _ _ _ _ c.load_state.ensures _ c.in-Some.is _ c.if-here-all.true c.weight_at.ensures

pub returns-else-here-all : goal.returns-else-here-all
returns-else-here-all c = ne_eqb _ _ c.if-here-all.false ∙ end_early _ _ _ _ _ c.load_state.ensures _ c.in-Some.is c.if-here-all.false

pub returns-in-None : goal.returns-in-None
returns-in-None c = end_absent _ _ _ _ _ c.load_state.ensures c.in-None.is
