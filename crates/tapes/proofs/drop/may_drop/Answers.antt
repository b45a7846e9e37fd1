use mathlib.Core.Path.{◌∙◌}
use borrow.Author.Tests.{ne_eqb}
use Prim.Native.Nat.{◌<◌}
use Rattle.tapes.proofs.DropCall.{marks_beyond, marks_within}
use borrow.Author.Rules.{rules}
use Rattle.tapes.proofs.drop.may_drop.Goals as goal

pub returns-then-from-tapes-eq0 : goal.returns-then-from-tapes-eq0
returns-then-from-tapes-eq0 c = let y : c.args.mask < 256 = search rules in marks_within _ _ c.requires y (rw c.from.ensures at c.if-from-tapes-eq0.true)

pub returns-else-from-tapes-eq0 : goal.returns-else-from-tapes-eq0
returns-else-from-tapes-eq0 c = let y : c.args.mask < 256 = search rules in ne_eqb _ 0 c.if-from-tapes-eq0.false ∙ marks_beyond _ _ c.requires y (rw c.from.ensures at c.if-from-tapes-eq0.false)
