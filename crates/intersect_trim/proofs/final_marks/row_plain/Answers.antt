use native.Mathlib.Omega.{arith}
use Rattle.std.proofs.lemmas.Bool.Decides.{nat_tests}
use Rattle.intersect_trim.proofs.RowFacts.{plain_is}
use Rattle.intersect_trim.proofs.final_marks.row_plain.Goals as goal

pub returns-then-work-at-eq0-3 : goal.returns-then-work-at-eq0-3
returns-then-work-at-eq0-3 c = rw (plain_is c.args.at c.args.work.now) (grind (arith, nat_tests))

pub returns-else-work-at-eq0-3 : goal.returns-else-work-at-eq0-3
returns-else-work-at-eq0-3 c = rw (plain_is c.args.at c.args.work.now) (grind (arith, nat_tests))
