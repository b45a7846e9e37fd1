use Rattle.intersect_config.proofs.StripFacts.{stripped_none, stripped_first, stripped_second}
use mathlib.Core.Path.{sym}
use Rattle.intersect_config.proofs.leftover.strip_to.Goals as goal

pub returns-then-not-agree : goal.returns-then-not-agree
returns-then-not-agree c = stripped_none _ _ _ (sym c.if-not-agree.ensures)

pub returns-then-v-u : goal.returns-then-v-u
returns-then-v-u c = stripped_first _ _ _ _ (sym c.if-not-agree.ensures) c.if-v-u.true c.pack.ensures

pub returns-else-v-u : goal.returns-else-v-u
returns-else-v-u c = stripped_second _ _ _ _ (sym c.if-not-agree.ensures) c.if-v-u.false c.pack-else-v-u.ensures
