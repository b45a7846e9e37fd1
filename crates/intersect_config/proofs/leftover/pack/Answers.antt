use mathlib.Core.Path.{sym, ◌∙◌}
use native.Mathlib.Omega.{arith}
use Rattle.std.proofs.lemmas.Bool.Decides.{nat_tests}
use Rattle.intersect_config.proofs.StripFacts.{packed_none, packed_some}
use Rattle.intersect_config.proofs.leftover.pack.Goals as goal

pub returns-then-is_empty : goal.returns-then-is_empty
returns-then-is_empty c = c.blank_leftover.ensures ∙ sym (packed_none _ _ (grind (arith, nat_tests, c.if-is_empty.ensures)))

pub returns : goal.returns
returns c = sym (packed_some _ _ _ (grind (arith, nat_tests, c.if-is_empty.ensures)) c.copy_into.ensures)
